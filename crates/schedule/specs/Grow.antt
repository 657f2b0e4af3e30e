-- Jobs enlarged by a request, and jobs renumbered.
-- Assumes nothing.
use Rattle.std.specs.Prelude.{◌↔◌, ◌⊎◌, ◌≡◌, ℕ, suc, ◌≤◌, ◌<◌, T}
use Rattle.schedule.specs.Jobs.{Jobs}

-- the jobs of J are jobs of K, with starts no earlier, and its chains are chains of K (01, Requests on a book: "the enlarged list")
pub record Extends (J K : Jobs) : Type 0 where
  pub longer : J.size ≤ K.size
  pub starts : (i : ℕ) → i < J.size → J.start i ≤ K.start i
  pub chains : (a b : ℕ) → a < J.size → b < J.size → T (J.before a b) → T (K.before a b)

-- K is J and one job more, which no order names (01, Requests on a book: "a new job")
pub record Added (J K : Jobs) (start : ℕ) : Type 0 where
  pub size : K.size ≡ suc J.size
  pub new : K.start J.size ≡ start
  pub starts : (i : ℕ) → i < J.size → K.start i ≡ J.start i
  pub chains : (a b : ℕ) → a < J.size → b < J.size → T (K.before a b) ↔ T (J.before a b)
  pub none_to : (a : ℕ) → a < K.size → T (K.before a J.size) → ⊥
  pub none_from : (a : ℕ) → a < K.size → T (K.before J.size a) → ⊥

-- K is J and an order of a before b more (01, Requests on a book: "an order of two jobs")
pub record Linked (J K : Jobs) (a b : ℕ) : Type 0 where
  pub size : K.size ≡ J.size
  pub starts : (i : ℕ) → i < J.size → K.start i ≡ J.start i
  pub chains : (x y : ℕ) → x < J.size → y < J.size →
      T (K.before x y) ↔ (T (J.before x y) ⊎ (((x ≡ a) ⊎ T (J.before x a)) × ((b ≡ y) ⊎ T (J.before b y))))

-- job i of K is job `of i` of J, and job i of J is job `to i` of K (01, Numbers and limits: "numbered 0, 1, 2..")
pub record Renumbered (J K : Jobs) (of to : ℕ → ℕ) : Type 0 where
  pub size : K.size ≡ J.size
  pub of_held : (i : ℕ) → i < J.size → of i < J.size
  pub to_held : (i : ℕ) → i < J.size → to i < J.size
  pub of_to : (i : ℕ) → i < J.size → of (to i) ≡ i
  pub to_of : (i : ℕ) → i < J.size → to (of i) ≡ i
  pub starts : (i : ℕ) → i < J.size → K.start i ≡ J.start (of i)
  pub chains : (a b : ℕ) → a < J.size → b < J.size → K.before a b ≡ J.before (of a) (of b)
