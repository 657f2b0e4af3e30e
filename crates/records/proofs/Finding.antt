-- The record at an offset: one outcome, and what stands there is found.
-- Assumes nothing.
use mathlib.Core.List.{List}
use mathlib.Core.Path.{◌≡◌, refl, sym, ap, ap₂, ◌∙◌}
use Prim.Native.Nat.{ℕ, ◌+◌, ◌≤◌, ◌<◌}
use native.Mathlib.Decide.{dec_le}
use native.Mathlib.Omega.{arith}
use lib.ListN.{length, get_or}
use Rattle.std.specs.Prelude.{Option, Some, None, Result, Ok, Err}
use Rattle.refusal.specs.declared.Refusal.{Refusal}
use Rattle.refusal.specs.Says.{reason_number, refused_by}
use Rattle.refusal.proofs.Says.{number_within, number_one}
use Rattle.refusal.specs.Table.{Clear, Refuses, One}
use Rattle.refusal.proofs.Table.{table_one, table_free, table_past, table_refused, then_table}
use Rattle.records.specs.declared.Record.{Record}
use Rattle.records.specs.Record.{word_at, Stands}
use Rattle.records.specs.Find.{Stops, Shows, record_named, find_checks, Finds}
use Rattle.records.proofs.Naming.{found_of, named_at}
use Rattle.records.proofs.Standing.{length_six, stands_one, stands_within, stands_marked}

-- the end is no refusal
pub not_end : (refusal : Refusal) → reason_number refusal.reason ≡ 255 → ⊥
not_end refusal e = omega (arith, (number_within refusal.reason).1)

-- one case for a number and a value
stops_one : (n v : ℕ) → One (Stops n v)
stops_one n v (Ok (Some q)) s x y = absurd x
stops_one n v (Ok None) (Ok (Some q)) x y = absurd y
stops_one n v (Ok None) (Ok None) x y = refl
stops_one n v (Ok None) (Err f) x y = absurd (not_end f (y.0 ∙ sym x.0))
stops_one n v (Err e) (Ok (Some q)) x y = absurd y
stops_one n v (Err e) (Ok None) x y = absurd (not_end e (x.0 ∙ sym y.0))
stops_one n v (Err e) (Err f) x y = ap Err (ap₂ refused_by (number_one e.reason f.reason (x.0 ∙ sym y.0)) (x.1 ∙ sym y.1))

module _ (file : List ℕ) (at : ℕ) where
  shows_one : One (Shows file at)
  shows_one (Ok (Some q)) (Ok (Some p)) x y = ap (λ r. Ok (Some r)) (stands_one file at q p x y)
  shows_one (Ok (Some q)) (Ok None) x y = absurd y
  shows_one (Ok (Some q)) (Err e) x y = absurd y
  shows_one (Ok None) s x y = absurd x
  shows_one (Err e) s x y = absurd x

  pub finds_only : One (Finds file at)
  finds_only r s x y = table_one (find_checks file at) Stops (Shows file at) stops_one shows_one r s x.outcome y.outcome

  -- what six bytes left name is what is found
  pub finds_named : (f : Result Record Refusal) → length file ≤ 24576 → at + 6 ≤ length file → ((i : ℕ) → get_or file i 0 < 256) →
      f ≡ record_named (word_at file at) (word_at file (at + 2)) (word_at file (at + 4)) at → Finds file at (found_of f)
  finds_named f short whole small e = rw e (record {
    outcome = then_table (λ f. omega arith) (then_table (λ f. omega arith) (then_table (λ f. omega arith) (named_at file at whole small)));
  })

  -- where a record stands, no check finds its fault
  pub stands_clear : (r : Record) → length file ≤ 24576 → Stands file at r → Clear (find_checks file at)
  stands_clear r short x =
      let within = stands_within file at r x in
      let six = length_six r in
      ((λ f. omega arith), ((λ f. omega arith), ((λ f. omega arith), λ f. f (stands_marked file at r x))))

  -- the record that stands at the offset of a file that is not too long is found
  pub finds_standing : (r : Record) (f : Result (Option Record) Refusal) → length file ≤ 24576 → Stands file at r → Finds file at f → f ≡ Ok (Some r)
  finds_standing r f short x y = shows_one f (Ok (Some r)) (table_free (find_checks file at) Stops (Shows file at) f (stands_clear r short x) y.outcome) x

  -- a record that is found stands there, and the file is not too long
  pub finds_record : (r : Record) → Finds file at (Ok (Some r)) → (length file ≤ 24576) × Stands file at r
  finds_record r y =
      let z = table_past (find_checks file at) Stops (Shows file at) (Ok (Some r)) (λ n v a x. x) y.outcome in
      (go (dec_le (length file) 24576) z.0.0, z.1)
    where
      go : Dec (length file ≤ 24576) → (24576 < length file → ⊥) → length file ≤ 24576
      go (yes h) f = h
      go (no h) f = absurd (f (omega arith))

  -- what is no record was refused, by the first check that found its fault
  pub finds_stop : (f : Result (Option Record) Refusal) → (Shows file at f → ⊥) → Finds file at f → (n : ℕ) × (v : ℕ) × Refuses (find_checks file at) n v × Stops n v f
  finds_stop f none y = table_refused (find_checks file at) Stops (Shows file at) f none y.outcome
