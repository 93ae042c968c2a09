-- The promise of the calls: an input fed in pieces of any length is never refused, and the reading stands where the rules stand.
-- What a call answers is whatever its contract allows.
-- Assumes nothing.
use Prim.Native.Nat.{ℕ}
use mathlib.Core.Path.{◌≡◌, ap, sym, ◌∙◌}
use mathlib.Core.List.{List}
use contract.Lifetimes.{Lfts}
use denote.Ref.{Bor}
use denote.MutBor.{MutBor}
use Rattle.std.specs.Prelude.{Result, IsOk}
use Rattle.std.specs.Result.{is_ok}
use Rattle.rules.specs.Kind.{kind32}
use Rattle.desk_rules.proofs.Desk.{state_after}
use Rattle.desk_reader.specs.declared.Reading.{Reading}
use Rattle.lent.specs.declared.refusal.Refusal.{Refusal}
use Rattle.desk_reader.specs.Reader.{standing, feed_answer}
use Rattle.desk_reader.specs.Read.{Calls, Read, begun, further}
use Rattle.desk_reader.proofs.Meaning.{Tied, tied_start, enough_places_lem, tied_feed}
use Rattle.desk_reader.proofs.start.Reads as start
use Rattle.desk_reader.proofs.feed.Reads as feed

-- ---- the calls

-- A piece is fed to a reading that is lent a log and got codes.
pub record PieceFed (r : Reading) (log got piece : List ℕ) (z : Result Reading Refusal) (log₁ got₁ : List ℕ) : Type 0 where
  pub κs : Lfts 3
  pub log_lent : MutBor (List ℕ)
  pub log_lent₁ : MutBor (List ℕ)
  pub got_lent : MutBor (List ℕ)
  pub got_lent₁ : MutBor (List ℕ)
  pub piece_lent : Bor (List ℕ)
  pub piece_lent₁ : Bor (List ℕ)
  pub the_log : log_lent.now ≡ log
  pub the_gots : got_lent.now ≡ got
  pub the_piece : piece_lent.now ≡ piece
  pub left : log_lent₁.now ≡ log₁
  pub left_gots : got_lent₁.now ≡ got₁
  pub promised : feed.Post κs (r, (log_lent, (got_lent, (piece_lent, tt)))) z (r, (log_lent₁, (got_lent₁, (piece_lent₁, tt))))

-- The calls by what their contracts allow.
abbrev pub the_calls : Calls
the_calls = record { starts = λ r. start.Post tt tt r tt; feeds = PieceFed }

-- ---- the promise

-- A reading got by calls stands where the rules stand.
pub tied : {bs : List ℕ} {r : Reading} {log got : List ℕ} → Read the_calls bs r log got → Tied (state_after kind32 bs) (standing r log got)
tied (begun log got room places p) = rw p (tied_start log got room places)
tied (further {bs} {r} log got piece log' got' read p) =
    let q = rw (p.the_log, p.the_gots, p.the_piece) at p.promised in
    rw (q.0, sym p.left ∙ q.1.0, sym p.left_gots ∙ q.1.1) (tied_feed bs r log got (tied read) piece)

-- No piece is refused.
pub never_refused : {bs : List ℕ} {r : Reading} {z : Result Reading Refusal} (κs : Lfts 3) (log got : MutBor (List ℕ)) (piece : Bor (List ℕ)) (log₁ got₁ : MutBor (List ℕ)) (piece₁ : Bor (List ℕ))
    → Read the_calls bs r log.now got.now
    → feed.Post κs (r, (log, (got, (piece, tt)))) z (r, (log₁, (got₁, (piece₁, tt)))) → IsOk z
unfolding feed_answer
never_refused κs log got piece log₁ got₁ piece₁ read p =
    let stands = tied read in
    ap is_ok p.0 ∙ rw (enough_places_lem log.now got.now stands.room stands.got_room)
