-- Each driver that tells the wrong byte, page or index breaks a promise: at a write of five bytes at 30 on part 2, or of one byte at 0.
-- Assumes nothing.
use Prim.Native.Nat.{ℕ}
use mathlib.Core.Path.{◌≡◌, refl, sym, ap}
use mathlib.Core.Bool.{false, false≢true}
use mathlib.Core.List.{List, [], ◌∷◌}
use lib.ListN.{replicate}
use native.Mathlib.Omega.{arith}
use Rattle.parts.specs.declared.Refusal.TheVariants.{NoSelect, NoData, NoSecond}
use Rattle.parts.specs.Table.{facts_of, enable_right_of, address_bytes_of}
use Rattle.parts.specs.Refusals.{number_of, place_told, sooner_of}
use Rattle.driver.specs.declared.Place.TheVariants.{Array}
use Rattle.driver.specs.declared.Request.{Request}
use Rattle.driver.specs.declared.Answer.{Answer}
use Rattle.driver.specs.declared.Answer.TheVariants.{Send, Done, Refused}
use Rattle.driver.specs.Split.{to_page_end_of, pages_met_of}
use Rattle.driver.specs.Request.{beyond_at, limit_of, judge_of, allowed_of, k_of}
use Rattle.driver.specs.Step.{select_at, wire_of, bit_of, shift_of, ready_of, bits_at, lead_at, low_at, data_at, poll_move_of, answered_of, heard_move_of, bits_move_of, driver_step_of, counts_right, range_of, driver_next_of, byte_kept_of, buffer_of}
use Rattle.driver_promises.specs.Promises.{Accepted}
use Rattle.driver_promises.specs.Which.{failing}
use Rattle.driver_promises.specs.Misnamed.{WrongNamesBreak}

abbrev five : Request
five = record { part = 2; enable = 0; place = Array (record { 0 = 30 }); reads = false; length = 5; budget = 1 }

abbrev one : ℕ → Request
one part = record { part = part; enable = 0; place = Array (record { 0 = 0 }); reads = false; length = 1; budget = 1 }

abbrev five_bytes : List ℕ
five_bytes = replicate 5 90

five_fits : Accepted five five_bytes
unfolding judge_of sooner_of facts_of enable_right_of beyond_at limit_of
five_fits = record { fine = refl; size = refl }

one_fits : (Accepted (one 0) (90 ∷ [])) × (Accepted (one 2) (90 ∷ []))
unfolding judge_of sooner_of facts_of enable_right_of beyond_at limit_of
one_fits = (record { fine = refl; size = refl }, record { fine = refl; size = refl })

abbrev told_number : Answer → ℕ
told_number (Send e) = 0
told_number (Done q n) = 0
told_number (Refused f q n) = number_of f

pub wrong_names_break : WrongNamesBreak
unfolding driver_next_of range_of judge_of sooner_of facts_of address_bytes_of enable_right_of beyond_at limit_of counts_right allowed_of k_of pages_met_of to_page_end_of driver_step_of ready_of bits_move_of bits_at heard_move_of lead_at low_at data_at poll_move_of answered_of wire_of select_at bit_of shift_of buffer_of byte_kept_of
wrong_names_break =
    record {
      all_nine = λ p. omega (arith, ((p (one 2) (90 ∷ []) one_fits.1 (failing 19 1) 0 0 0 (NoSelect 0) refl).names.select refl).0);
      second_of_one = λ p. omega (arith, ((p (one 0) (90 ∷ []) one_fits.0 (failing 19 1) 0 0 0 (NoSecond 0) refl).names.second refl).0);
      request_page = λ p. omega (arith, ap place_told ((p five five_bytes five_fits (failing 68 1) 0 1 2 (NoSelect 0) refl).names.select refl).1);
      part_index = λ p. omega (arith, ap place_told ((p five five_bytes five_fits (failing 95 1) 0 1 2 (NoData 0) refl).names.byte refl).2);
      nine_at_polls = λ p. false≢true (sym (p (one 0) (90 ∷ []) one_fits.0 (failing 39 1) 0 1 0 (NoSelect 0) refl).names.polling);
      never_fourteen = λ p. (let z : ◌≡◌ {A = ℕ} 15 14 = ap told_number (p (one 2) (90 ∷ []) one_fits.1 (omega arith) 50 0 (omega arith)).first in omega arith);
    }
