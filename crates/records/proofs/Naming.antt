-- The record that a mark and two fields make.
-- Assumes nothing.
use mathlib.Core.Bool.{Bool, true, false, cond}
use mathlib.Core.List.{List}
use mathlib.Core.Logic.{⊎_elim}
use mathlib.Core.Path.{◌≡◌, refl}
use Prim.Native.Nat.{ℕ, ◌+◌, ◌≤◌, ◌<◌}
use lib.Dec.{eqb}
use lib.ListN.{length, get_or}
use borrow.Author.Tests.{eqb-true, eqb-false}
use Rattle.std.specs.Prelude.{Option, Some, Result, Ok, Err}
use Rattle.refusal.specs.declared.Reason.TheVariants.{UnknownMark}
use Rattle.refusal.specs.declared.Refusal.{Refusal}
use Rattle.refusal.specs.Says.{refused_by}
use Rattle.refusal.specs.Table.{Table, refused, passed}
use Rattle.records.specs.declared.Record.{Record}
use Rattle.records.specs.declared.Record.TheVariants.{Job, Order, Deadline}
use Rattle.records.specs.Record.{JB, OR, TG, word_at}
use Rattle.records.specs.Find.{Stops, Shows, mark_check, record_named}
use Rattle.records.proofs.Standing.{mark_of, first_field, second_field, stands_by, stands_marked}

-- a record by its own mark and fields
pub named_self : (r : Record) (value : ℕ) → record_named (mark_of r) (first_field r) (second_field r) value ≡ Ok r
named_self (Job a b) value = refl
named_self (Order a b) value = refl
named_self (Deadline a b) value = refl

-- a record named is found
abbrev pub found_of : Result Record Refusal → Result (Option Record) Refusal
found_of (Ok r) = Ok (Some r)
found_of (Err refusal) = Err refusal

-- of the words at an offset: the record that stands there, or 10
module _ (file : List ℕ) (at : ℕ) (whole : at + 6 ≤ length file) (small : (i : ℕ) → get_or file i 0 < 256) where
  abbrev m : ℕ
  m = word_at file at

  abbrev a : ℕ
  a = word_at file (at + 2)

  abbrev b : ℕ
  b = word_at file (at + 4)

  stands : (r : Record) → m ≡ mark_of r → a ≡ first_field r → b ≡ second_field r → Table (mark_check file at) Stops (Shows file at) (Ok (Some r))
  stands r e f g = let x = stands_by file at r whole small e f g in passed (λ none. none (stands_marked file at r x)) x

  pub named_at : Table (mark_check file at) Stops (Shows file at) (found_of (record_named m a b at))
  named_at = go (eqb m JB) (eqb m OR) (eqb m TG) refl refl refl
    where
      go : (j o t : Bool) → eqb m JB ≡ j → eqb m OR ≡ o → eqb m TG ≡ t →
          Table (mark_check file at) Stops (Shows file at) (found_of (cond j (Ok (Job a b)) (cond o (Ok (Order a b)) (cond t (Ok (Deadline a b)) (Err (refused_by UnknownMark at))))))
      go true o t e f g = stands (Job a b) (eqb-true m JB e) refl refl
      go false true t e f g = stands (Order a b) (eqb-true m OR f) refl refl
      go false false true e f g = stands (Deadline a b) (eqb-true m TG g) refl refl
      go false false false e f g = refused 10 at ((λ marked. ⊎_elim (eqb-false m JB e) (⊎_elim (eqb-false m OR f) (eqb-false m TG g)) marked), refl, refl) (refl, refl)
