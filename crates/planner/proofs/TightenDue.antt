-- The jobs of a set whose time is below a limit, gathered one by one.
-- Assumes nothing.
use mathlib.Core.Bool.{◌&&◌}
use mathlib.Core.List.{List}
use mathlib.Core.Logic.{◌⊎◌, inl, inr, ⊎_elim}
use mathlib.Core.Path.{◌≡◌, refl, ◌∙◌}
use Prim.Native.Nat.{ℕ, ◌≤◌, ◌<◌}
use native.Mathlib.Omega.{arith}
use borrow.Author.Tests.{lt-ltb, le-ltb, le-leb, lt-leb}
use lib.Dec.{T, leb, ltb, ltb→lt, lt→ltb}
use lib.ListN.{get_or}
use Rattle.schedule.proofs.Tests.{and_fst, and_snd, and_pair, same_test, le_or_lt}
use Rattle.planner.specs.declared.tighten.Due.{Due}
use Rattle.sets.specs.Sets.{has, Below}
use Rattle.planner.specs.Inner.Tighten.{DueAmong, NoneAmong}
use Rattle.planner.specs.Inner.Tighten.Rule.{DueBy}
use Rattle.book.specs.Told.{row_in}
use Rattle.sets.proofs.Bits.{has_some}
use Rattle.sets.proofs.Range.{below_in}

-- what is known while the set is walked: those of `rest` are still to come
pub record Gathered (limit among : ℕ) (row : List ℕ) (d jobs rest : ℕ) : Type 0 where
  pub within : (j : ℕ) → T (has rest j) → T (has among j)
  pub into : (j : ℕ) → T (has jobs j) → T (has among j) × (get_or row j 0 < limit) × (get_or row j 0 ≤ d)
  pub met : (j : ℕ) → T (has among j) → T (has rest j) ⊎ (get_or row j 0 < limit → T (has jobs j))
  pub low : ((d ≡ 0) × (jobs ≡ 0)) ⊎ (d < limit)

pub gathered_none : (limit among : ℕ) (row : List ℕ) → Gathered limit among row 0 0 among
gathered_none limit among row = record { within = λ j t. t; into = λ j t. absurd (has_some 0 j t refl); met = λ j t. inl t; low = inl (refl, refl) }

module _ {limit among : ℕ} {row : List ℕ} {d jobs rest : ℕ} (g : Gathered limit among row d jobs rest) where
  module _ (e : rest ≡ 0) where
    gathered_met : (j : ℕ) → T (has among j) → get_or row j 0 < limit → T (has jobs j)
    gathered_met j u = ⊎_elim (λ v. absurd (has_some rest j v e)) (λ v. v) (g.met j u)

    pub gathered_due : (jobs ≡ 0 → ⊥) → DueAmong limit among row (record { d = d; jobs = jobs })
    gathered_due some = record {
      jobs = λ j. same_test (has jobs j) (has among j && ltb (get_or row j 0) limit)
          (λ u. let x = g.into j u in and_pair (has among j) (ltb (get_or row j 0) limit) x.0 (lt→ltb (get_or row j 0) limit x.1))
          (λ u. gathered_met j (and_fst (has among j) (ltb (get_or row j 0) limit) u) (ltb→lt (get_or row j 0) limit (and_snd (has among j) (ltb (get_or row j 0) limit) u)));
      top = λ j u. (g.into j u).2;
      below = ⊎_elim (λ z. absurd (some z.1)) (λ x. x) g.low;
    }

    pub gathered_nobody : jobs ≡ 0 → NoneAmong limit among row
    gathered_nobody z j u = ⊎_elim (λ h. h) (λ h. absurd (has_some jobs j (gathered_met j u h) z)) (le_or_lt limit (get_or row j 0))

-- a set of jobs of the row that has all whose time is below the limit
pub record Among (size limit : ℕ) (row : List ℕ) (among : ℕ) : Type 0 where
  pub inside : (j : ℕ) → T (has among j) → j < size
  pub all : (j : ℕ) → j < size → get_or row j 0 < limit → T (has among j)

pub among_start : (size limit : ℕ) (row : List ℕ) (among : ℕ) → size ≤ 64 → Below size among → Among size limit row among
among_start size limit row among few b = let w = below_in size among few b in record { inside = λ j t. ltb→lt j size (rw (w j) at t); all = λ j l h. rw (w j) (lt→ltb j size l) }

-- the jobs of the row whose time is below a limit, and the greatest such time
pub record DueBelow (limit size : ℕ) (row : List ℕ) (r : Due) : Type 0 where
  pub jobs : (j : ℕ) → has r.jobs j ≡ (ltb j size && ltb (get_or row j 0) limit)
  pub top : (j : ℕ) → T (has r.jobs j) → get_or row j 0 ≤ r.d
  pub below : r.d < limit

module _ {size limit : ℕ} {row : List ℕ} {among : ℕ} (a : Among size limit row among) where
  pub due_all : {r : Due} → DueAmong limit among row r → DueBelow limit size row r
  due_all b = record {
    jobs = λ j. b.jobs j ∙ same_test (has among j && ltb (get_or row j 0) limit) (ltb j size && ltb (get_or row j 0) limit)
        (λ t. and_pair (ltb j size) (ltb (get_or row j 0) limit) (lt→ltb j size (a.inside j (and_fst (has among j) (ltb (get_or row j 0) limit) t))) (and_snd (has among j) (ltb (get_or row j 0) limit) t))
        (λ t. let h = and_snd (ltb j size) (ltb (get_or row j 0) limit) t in
        and_pair (has among j) (ltb (get_or row j 0) limit) (a.all j (ltb→lt j size (and_fst (ltb j size) (ltb (get_or row j 0) limit) t)) (ltb→lt (get_or row j 0) limit h)) h);
    top = b.top;
    below = b.below;
  }

  pub due_none : NoneAmong limit among row → (j : ℕ) → j < size → limit ≤ get_or row j 0
  due_none n j l = ⊎_elim (λ h. h) (λ h. n j (a.all j l h)) (le_or_lt limit (get_or row j 0))

module _ {limit size : ℕ} {row : List ℕ} {r : Due} (b : DueBelow limit size row r) where
  -- those are the jobs due by the greatest such time
  pub due_by : DueBy size (row_in row) r.d r.jobs
  due_by j = b.jobs j ∙ go (le_or_lt size j) (le_or_lt limit (get_or row j 0))
    where
      go : (size ≤ j) ⊎ (j < size) → (limit ≤ get_or row j 0) ⊎ (get_or row j 0 < limit) → (ltb j size && ltb (get_or row j 0) limit) ≡ (ltb j size && leb (get_or row j 0) r.d)
      go (inl g) h = simp (le-ltb j size g)
      go (inr l) (inl h) = simp (le-ltb (get_or row j 0) limit h, lt-leb (get_or row j 0) r.d (omega (arith, b.below)))
      go (inr l) (inr h) =
          let in_set : T (has r.jobs j) = rw (b.jobs j) (and_pair (ltb j size) (ltb (get_or row j 0) limit) (lt→ltb j size l) (lt→ltb (get_or row j 0) limit h)) in
          simp (lt-ltb (get_or row j 0) limit h, le-leb (get_or row j 0) r.d (b.top j in_set))

  -- they are jobs of the row
  pub below_job : (j : ℕ) → T (has r.jobs j) → j < size
  below_job j t = ltb→lt j size (and_fst (ltb j size) (ltb (get_or row j 0) limit) (rw (b.jobs j) at t))

  -- while the row stays, they have all that are due sooner
  pub among_next : Among size r.d row r.jobs
  among_next = record {
    inside = below_job;
    all = λ j l h. rw (b.jobs j) (and_pair (ltb j size) (ltb (get_or row j 0) limit) (lt→ltb j size l) (lt→ltb (get_or row j 0) limit (omega (arith, b.below))));
  }
