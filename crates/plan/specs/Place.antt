-- The place of one job (01, The plan made).
-- Assumes nothing.
use Rattle.std.specs.Prelude.{cond, List, [], ◌∷◌, ◌≡◌, ℕ, ◌+◌, ◌-◌, ◌≤◌, eqb}
use Rattle.refusal.specs.Table.{Table, check}
use Rattle.book.specs.Told.{Book, jobs_of, latest_of, cores}
use Rattle.plan.specs.Plan.{seat_at, plan_of}

-- core 1 if its seat in the job's slot is the job's, else core 0 (01, The plan made: "its core")
abbrev pub core_of : Book → ℕ → ℕ
core_of k i = cond (eqb (seat_at cores (jobs_of k) (latest_of k) (plan_of k i) 1) i) 1 0

-- (01, The plan made: "its end (slot + 1)")
abbrev pub end_of : Book → ℕ → ℕ
end_of k i = plan_of k i + 1

-- (01, The plan made: "its spare, which is its latest time minus its end")
abbrev pub spare_of : Book → ℕ → ℕ
spare_of k i = latest_of k i - end_of k i

-- (01, The plan made: "The place of a job: its slot, its core, its end (slot + 1) and its spare")
abbrev pub place_of : Book → ℕ → List ℕ
place_of k i = plan_of k i ∷ core_of k i ∷ end_of k i ∷ spare_of k i ∷ []

-- (01, Numbers of refusal: 5; "place 5")
abbrev pub Places : Book → ℕ → ℕ → List ℕ → Type 0
Places k job number values = Table {A = ℕ × List ℕ} (check 5 0 (k.size ≤ job)) (λ n v r. r ≡ (n, v ∷ [])) (λ r. r ≡ (0, place_of k job)) (number, values)
