-- What the four functions answer and leave, for refused input too (document 02, §7): "Refusals: 21 counts would be lost, after 12".
-- Assumes nothing.
use Rattle.std.specs.Prelude.{ℕ, Bool, true, not, cond, List, length, ltb, Ok, Err}
use Rattle.parts.specs.declared.Refusal.TheVariants.{NoPart, WrongEnable, ShortBuffer, BadImage, CountsLost}
use Rattle.parts.specs.Verdict.{Verdict}
use Rattle.parts.specs.Table.{facts_of, enable_right_of}
use Rattle.parts.specs.Refusals.{claim_of, sooner_of, lent_verdict_of}
use Rattle.state.specs.declared.Chip.{Chip}
use Rattle.chip.specs.Memory.{Mem}
use Rattle.image.specs.declared.Loaded.{Loaded}
use Rattle.image.specs.Layout.{image_length_of, part_in, stored_in, formed_of}
use Rattle.image.specs.Calls.{AfterSave, saved_by, out_by, save_verdict_of, load_by}
use Rattle.wear.specs.declared.Most.{Most}
use Rattle.wear.specs.Report.{most}
use Rattle.wear.specs.Worst.{worst_by}
use Rattle.wear.specs.Calls.{counts_verdict_of, counts_by}
use Rattle.image_worn.specs.Layout.{worn_image_of, worn_length_of, worn_formed_of, plain_in, counts_in, worn_from, plain_from, all_zero_of}

-- ---- saving: the refusals of version 1, 3 for the counts too, and 6 where there is no room for them

unfoldable pub save_worn_verdict_of : ℕ → Chip → ℕ → ℕ → ℕ → ℕ → Verdict
save_worn_verdict_of part c n d k room =
    sooner_of (counts_verdict_of (facts_of part) k)
    (sooner_of (save_verdict_of part c n d room)
    (claim_of (ltb room (worn_length_of (facts_of part))) ShortBuffer))

-- the bytes and the counts as they stand: a cycle that is under way is in neither
-- of the part, the chip, the two buffers, the counts and the output buffer
abbrev pub saving_worn : ℕ → Chip → Mem → List ℕ → List ℕ → AfterSave
saving_worn part c m counts out =
    record {
      answer = saved_by (worn_length_of (facts_of part)) (save_worn_verdict_of part c (length m.cells) (length m.ident) (length counts) (length out));
      out = out_by (worn_image_of part c.line.core.locked m counts) (worn_length_of (facts_of part)) out (save_worn_verdict_of part c (length m.cells) (length m.ident) (length counts) (length out));
    }

-- ---- loading either version: 12 for an image that does not hold its part byte; else refusals 1, 2, 3, 12

unfoldable pub either_formed_of : ℕ → List ℕ → Bool
either_formed_of part l = cond (formed_of (facts_of part) l) true (worn_formed_of (facts_of part) l)

unfoldable pub judged_worn_of : List ℕ → ℕ → ℕ → ℕ → ℕ → Verdict
judged_worn_of l enable n d k =
    sooner_of (counts_verdict_of (facts_of (part_in l)) k)
    (sooner_of (lent_verdict_of (facts_of (part_in l)) n d)
    (sooner_of (claim_of (not (enable_right_of (facts_of (part_in l)) enable)) WrongEnable)
    (claim_of (not (either_formed_of (part_in l) l)) BadImage)))

unfoldable pub load_worn_verdict_of : List ℕ → ℕ → ℕ → ℕ → ℕ → Verdict
load_worn_verdict_of l enable n d k = cond (ltb (length l) 6) (Err BadImage) (judged_worn_of l enable n d k)

abbrev pub worn_mem : List ℕ → Mem → Verdict → Mem
worn_mem l m (Ok _) = stored_in (facts_of (part_in l)) (plain_in (facts_of (part_in l)) l)
worn_mem l m (Err r) = m

pub record AfterLoadWorn : Type 0 where
  pub answer : Loaded
  pub stored : Mem
  pub counts : List ℕ

abbrev pub load_worn_by : List ℕ → Mem → List ℕ → Verdict → AfterLoadWorn
load_worn_by l m counts v = record { answer = load_by l v; stored = worn_mem l m v; counts = counts_by (counts_in (facts_of (part_in l)) l) counts v }

-- of the image, the enable, the two buffers and the counts
abbrev pub loading_worn : List ℕ → ℕ → Mem → List ℕ → AfterLoadWorn
loading_worn l enable m counts = load_worn_by l m counts (load_worn_verdict_of l enable (length m.cells) (length m.ident) (length counts))

-- with the worst of the counts that were loaded (document 02, §8: "every write, cut, load and conversion keeps it")
pub record LoadKept : Type 0 where
  pub load : AfterLoadWorn
  pub worst : Most

abbrev pub kept_at : AfterLoadWorn → LoadKept
kept_at x = record { load = x; worst = worst_by (most 0 0) x.counts x.answer.verdict }

abbrev pub loading_kept : List ℕ → ℕ → Mem → List ℕ → LoadKept
loading_kept l enable m counts = kept_at (loading_worn l enable m counts)

-- ---- from version 1 to version 2: 12 for an image that does not hold its part byte; else refusals 1, 6, 12

unfoldable pub to_worn_verdict_of : List ℕ → ℕ → Verdict
to_worn_verdict_of l room =
    cond (ltb (length l) 6) (Err BadImage)
    (sooner_of (claim_of (not (facts_of (part_in l)).known) NoPart)
    (sooner_of (claim_of (ltb room (worn_length_of (facts_of (part_in l)))) ShortBuffer)
    (claim_of (not (formed_of (facts_of (part_in l)) l)) BadImage)))

-- of the image and the output buffer
abbrev pub to_worn_of : List ℕ → List ℕ → AfterSave
to_worn_of l out =
    record {
      answer = saved_by (worn_length_of (facts_of (part_in l))) (to_worn_verdict_of l (length out));
      out = out_by (worn_from (facts_of (part_in l)) l) (worn_length_of (facts_of (part_in l))) out (to_worn_verdict_of l (length out));
    }

-- ---- back: likewise, and then 21

unfoldable pub to_plain_verdict_of : List ℕ → ℕ → Verdict
to_plain_verdict_of l room =
    cond (ltb (length l) 6) (Err BadImage)
    (sooner_of (claim_of (not (facts_of (part_in l)).known) NoPart)
    (sooner_of (claim_of (ltb room (image_length_of (facts_of (part_in l)))) ShortBuffer)
    (sooner_of (claim_of (not (worn_formed_of (facts_of (part_in l)) l)) BadImage)
    (claim_of (not (all_zero_of (counts_in (facts_of (part_in l)) l))) CountsLost))))

abbrev pub to_plain_of : List ℕ → List ℕ → AfterSave
to_plain_of l out =
    record {
      answer = saved_by (image_length_of (facts_of (part_in l))) (to_plain_verdict_of l (length out));
      out = out_by (plain_from (facts_of (part_in l)) l) (image_length_of (facts_of (part_in l))) out (to_plain_verdict_of l (length out));
    }
