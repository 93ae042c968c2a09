-- A text that fits takes the place of as many bytes.
use Rattle.std.proofs.Common.{rules, refl}
use Rattle.std.proofs.lemmas.Slice.{put_mid-paste}
use Rattle.desk_text.proofs.writer.Writer.push.Goals.{then-end-self, else-end-self}
use Rattle.desk_text.proofs.writer.Writer.push.Goals as goal

pub returns : goal.returns
returns c = elim c.if-end-self.branch [
  | then-end-self w ↦ record {
    same = search rules;
    ends = search rules;
    long = search rules;
    small = search rules;
    stored = λ l. rw w.self-is (put_mid-paste _ _ _ _ _ _ w.copy_from_slice.ensures.after (search rules) refl);
  }
  | else-end-self w ↦ record { same = search rules; ends = search rules; long = search rules; small = search rules; stored = λ l. search rules }
]
