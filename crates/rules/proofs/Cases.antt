-- The bench's cases hold: one claim, which the checker computes.
-- Assumes nothing.
use mathlib.Core.Path.{◌≡◌, refl}
use lib.Dec.{T}
use lib.ListN.{length}
use Rattle.numbers.specs.Power.{power_within, power_mod}
use Rattle.numbers.specs.Table.{every}
use Rattle.rules.specs.Field.{multiplications_within, multiplications}
use Rattle.rules.specs.Signed.{signed_count}
use Rattle.rules.specs.Sketch.{each, fresh, insert, remove, subtract, negate, well_formed}
use Rattle.rules.specs.Decode.{newest_first, coefficients, evaluate, decode, surplus}
use Rattle.rules.specs.Packet.{bytes, number, all_bytes, all_numbers, packet, sketch_in}
use Rattle.rules.specs.Calls as calls
use Rattle.rules.specs.Cases.{all_hold, inserts, down_from, field_cases, decode_cases, remove_cases, packet_cases, limit_cases, refusal_cases, handed_cases}
use Rattle.rules.specs.Cases.{narrow_field_cases, narrow_sketch_cases, narrow_packet_cases, once_cases, word_cases, removes, signed_cases}
use Rattle.rules.specs.Cases.{surplus_cases, cases}
use Rattle.rules.specs.Words.{said_by, words_of}

-- The table has so many cases.
pub number_of_cases : length cases ≡ 130
unfolding cases field_cases decode_cases remove_cases packet_cases limit_cases refusal_cases handed_cases narrow_field_cases narrow_sketch_cases narrow_packet_cases
    once_cases word_cases signed_cases surplus_cases
number_of_cases = refl

-- Every case of the table gives what the requirements say.
pub all_cases_hold : T (all_hold cases)
unfolding cases field_cases decode_cases remove_cases packet_cases limit_cases refusal_cases handed_cases narrow_field_cases narrow_sketch_cases narrow_packet_cases
    once_cases word_cases signed_cases surplus_cases inserts removes down_from power_mod power_within every
    multiplications multiplications_within each fresh insert remove newest_first coefficients evaluate decode bytes number all_bytes all_numbers packet sketch_in
    well_formed subtract negate signed_count surplus calls.make calls.sub_assign calls.sub calls.negate calls.coefficients calls.evaluate calls.evaluate_once
    calls.decode calls.decode_surplus calls.write calls.read said_by words_of
all_cases_hold = tt
