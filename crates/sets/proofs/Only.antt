-- No second outcome meets what a call on a set promises; of `first` it is `first_only` (Bits), and `has` and `size` are equations.
-- Assumes nothing.
use Rattle.std.proofs.Common.{◌≡◌, ℕ, ◌^◌, ◌<◌, refl, sym, ap, ◌∙◌, Option, Some, None}
use Rattle.schedule.specs.declared.JobIndex.{JobIndex}
use Rattle.sets.specs.Sets.{With, Without, Below, Rest}
use Rattle.sets.specs.Walk.{Walks}
use Rattle.sets.proofs.Bits.{digits_same, first_is, first_only, has_some}

pub with_only : (x i r s : ℕ) → With x i r → With x i s → r ≡ s
with_only x i r s v w = digits_same r s (λ j. v j ∙ sym (w j))

pub without_only : (x i r s : ℕ) → Without x i r → Without x i s → r ≡ s
without_only x i r s v w = digits_same r s (λ j. v j ∙ sym (w j))

pub below_only : (n r s : ℕ) → Below n r → Below n s → r ≡ s
below_only n r s v w = digits_same r s (λ j. v j ∙ sym (w j))

pub rest_only : (x r s : ℕ) → x < 2 ^ 64 → Rest x r → Rest x s → r ≡ s
rest_only x r s h v w = let f = first_is x h in without_only x _ r s (v _ f) (w _ f)

pub walks_only : (x : ℕ) (job other : Option JobIndex) (r s : ℕ) → Walks x job r → Walks x other s → (job ≡ other) × (r ≡ s)
walks_only x None None r s v w = (refl, v.1 ∙ sym w.1)
walks_only x None (Some b) r s v w = absurd (has_some x b.0 w.member v.0)
walks_only x (Some a) None r s v w = absurd (has_some x a.0 v.member w.0)
walks_only x (Some a) (Some b) r s v w =
    let same : a.0 ≡ b.0 = first_only x a.0 b.0 v.first w.first in
    (ap job_of same, without_only x a.0 r s v.left (rw same w.left))
  where
    job_of : ℕ → Option JobIndex
    job_of n = Some (record { 0 = n })
