-- A whole line leaves the lent lists as long as they were.
-- Assumes nothing.
use Prim.Native.Nat.{ℕ}
use mathlib.Core.Path.{◌≡◌, refl}
use mathlib.Core.Bool.{Bool, true, false, cond}
use mathlib.Core.List.{List}
use lib.Dec.{ltb}
use lib.ListN.{length, set, length-set}
use Rattle.desk_rules.specs.Desk.{most_lines}
use Rattle.desk_reader.specs.declared.bytes.Key.TheVariants.{Threshold, Log, Got}
use Rattle.desk_reader.specs.declared.bytes.Line.{Line}
use Rattle.desk_reader.specs.declared.bytes.Line.TheVariants.{Fresh, Word, Value, Bad}
use Rattle.desk_reader.specs.declared.lines.Phase.{Phase}
use Rattle.desk_reader.specs.declared.lines.Phase.TheVariants.{Unbegun, Logs, Gots, Stopped}
use Rattle.desk_reader.specs.declared.lines.Desk.{Desk}
use Rattle.desk_reader.specs.Reader.{by_phase, taken_log, taken_got}

-- Storing a code where there is room leaves a list as long as it was.
kept_length : (room : Bool) (n c : ℕ) (list : List ℕ) → length (cond room (set list n c) list) ≡ length list
kept_length true n c list = length-set list n c
kept_length false n c list = refl

-- So does any choice by the phase between a list and those as long as it.
phase_length : (p : Phase) (list logs gots : List ℕ) → length logs ≡ length list → length gots ≡ length list
    → length (by_phase p list logs gots list) ≡ length list
phase_length Unbegun list logs gots e f = refl
phase_length Logs list logs gots e f = e
phase_length Gots list logs gots e f = f
phase_length (Stopped n) list logs gots e f = refl

-- A whole line leaves the lent log as long as it was.
pub taken_length : (d : Desk) (l : Line) (log : List ℕ) → length (taken_log d l log) ≡ length log
unfolding taken_log
taken_length d (Value Threshold v) log = refl
taken_length d (Value Log v) log = phase_length d.phase log _ _ (kept_length (ltb d.entries most_lines) d.entries v log) refl
taken_length d (Value Got v) log = refl
taken_length d Fresh log = refl
taken_length d (Word k at) log = refl
taken_length d Bad log = refl

-- So it leaves the lent got codes.
pub taken_got_length : (d : Desk) (l : Line) (got : List ℕ) → length (taken_got d l got) ≡ length got
unfolding taken_got
taken_got_length d (Value Threshold v) got = refl
taken_got_length d (Value Log v) got = refl
taken_got_length d (Value Got v) got = let kept = kept_length (ltb d.gots most_lines) d.gots v got in phase_length d.phase got _ _ kept kept
taken_got_length d Fresh got = refl
taken_got_length d (Word k at) got = refl
taken_got_length d Bad got = refl
