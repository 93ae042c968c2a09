-- The answer of a reading as a struct. Definitions only.
-- Assumes nothing.
use Rattle.rules.specs.Sketch.{Sketch, code_or0}
use Rattle.modint.specs.Width.{Width}
use Rattle.modint.specs.Answers.{wrap}
use Rattle.sums.specs.declared.packet.PacketHead.{PacketHead}

-- What a packet says beside its sums.
abbrev pub packet_head_of : {W : Type 0} → Width W → Sketch → PacketHead W
packet_head_of w s = record { threshold = s.threshold; count = s.count; last = wrap w (code_or0 s.last) }
