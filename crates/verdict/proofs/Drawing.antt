-- A walk that draws deadlines in: where it stands, and what it tells.
-- Assumes nothing.
use mathlib.Core.Bool.{true, false}
use mathlib.Core.List.{List, [], ◌∷◌, ◌++◌, append-nil}
use mathlib.Core.Path.{◌≡◌, refl, sym, ap, subst, ◌∙◌}
use Prim.Native.Nat.{ℕ, ◌+◌}
use native.Mathlib.Omega.{arith}
use lib.ListN.{length, length-append}
use Rattle.std.specs.Prelude.{Option, Some, Result, Ok, Err}
use Rattle.refusal.specs.declared.Refusal.{Refusal}
use Rattle.refusal.specs.Table.{Clear}
use Rattle.records.specs.declared.Record.{Record}
use Rattle.records.specs.Record.{length_of}
use Rattle.records.specs.Find.{Finds}
use Rattle.verdict.specs.Gathered.{drawn, drawn_by, Stray, stray_checks}
use Rattle.verdict.specs.Inner.Gather.{Draws, ForRecords, Drew}
use Rattle.verdict.proofs.Walk.{contains_first, contains_none, Behind, behind_none, behind_more}
use Rattle.verdict.proofs.Rows.{drawn_last, drawn_length, stray_first, clear_more}

pub record Drawing (file old new : List ℕ) (at place : ℕ) : Type 0 where
  pub done : List Record
  pub behind : Behind file at done
  pub counted : place ≡ length done
  pub clear : Clear (stray_checks (length old) done)
  pub row : new ≡ drawn done old

pub drawing_length : {file old new : List ℕ} {at place : ℕ} → Drawing file old new at place → length new ≡ length old
drawing_length {file} {old} {new} w = ap length w.row ∙ drawn_length w.done old

pub drawing_none : (file old : List ℕ) → Drawing file old old 0 0
unfolding drawn
drawing_none file old = record { done = []; behind = behind_none file; counted = refl; clear = λ i l x. omega arith; row = refl }

module _ (file old new : List ℕ) (at place : ℕ) (w : Drawing file old new at place) where
  same : length new ≡ length old
  same = drawing_length w

  -- a record more
  pub drawing_more : (r : Record) (size : ℕ) (next : List ℕ) → Finds file at (Ok (Some r)) → size ≡ length_of r → Drew r new next true → Drawing file old next (at + size) (place + 1)
  drawing_more r size next f e d = record {
    done = w.done ++ (r ∷ []);
    behind = behind_more file at size w.done r w.behind f e;
    counted = simp length-append (omega (arith, w.counted));
    clear = clear_more (length old) w.done r w.clear (subst (λ n. Stray n r → ⊥) same d.0);
    row = d.1 ∙ ap (drawn_by r) w.row ∙ sym (drawn_last w.done r old);
  }

  -- one that is stray
  pub drawn_at : (r : Record) (next : List ℕ) → Finds file at (Ok (Some r)) → Drew r new next false → ForRecords file (λ records. Draws records old next (Err place))
  drawn_at r next f d records n v x =
      let b = w.behind.back records n v x in
      let first = contains_first r f b.2 in
      rw (b.1 ∙ ap (λ l. w.done ++ l) first.1, w.counted) (stray_first (length old) w.done r first.0 w.clear (subst (λ n. Stray n r) same d.0))

  -- none is left
  pub drawn_all : (f : Result (Option Record) Refusal) → ((r : Record) → f ≡ Ok (Some r) → ⊥) → Finds file at f → ForRecords file (λ records. Draws records old new (Ok tt))
  drawn_all f none y records n v x =
      let b = w.behind.back records n v x in
      let e : records ≡ w.done = b.1 ∙ ap (λ l. w.done ++ l) (contains_none f none y b.2) ∙ append-nil w.done in
      rw e (w.clear, w.row)
