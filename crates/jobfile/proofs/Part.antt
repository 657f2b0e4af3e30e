-- A list that is part of what a book holds has a plan, so each record that makes it is accepted.
-- Assumes nothing.
use mathlib.Core.List.{List, [], ◌∷◌, ◌++◌}
use mathlib.Core.Logic.{⊎_elim}
use mathlib.Core.Path.{◌≡◌, refl}
use Prim.Native.Nat.{ℕ, suc, ◌≤◌, ◌<◌}
use native.Mathlib.Omega.{arith}
use lib.Dec.{T}
use lib.ListN.{length, get_or, length-append}
use Rattle.schedule.specs.Jobs.{Closed}
use Rattle.schedule.specs.Listed.{Listed, ordered, Chain, link, join, written, with_job, with_order}
use Rattle.schedule.proofs.Rows.{put_all}
use Rattle.schedule.proofs.Chains.{reads_closed, reads_loopless, ordered_append, getD_put}
use Rattle.schedule.proofs.Greedy.{row_has_plan}
use Rattle.book.specs.Told.{Book, jobs_of, latest_of, Told, nothing_listed}
use Rattle.refusal.specs.Table.{Clear}
use Rattle.refusal.proofs.Table.{table_free}
use Rattle.planner.specs.Requests.{Plannable, grow, request_checks, accepts_with, Applied, Grown, Outcome}
use Rattle.planner.proofs.Orders.{held_clear, loop_clear}
use Rattle.planner.proofs.OneByOne.{among_planned}
use Rattle.records.specs.declared.Record.{Record}
use Rattle.records.specs.declared.Record.TheVariants.{Job, Order, Deadline}
use Rattle.jobfile.specs.Reader.{asks}

-- the first jobs of the book with their latest times, and orders that the book has
pub record Part (k : Book) (M : Listed) : Type 0 where
  pub even : length M.deadlines ≡ length M.starts
  pub fewer : length M.starts ≤ k.size
  pub start : (i : ℕ) → i < length M.starts → get_or M.starts i 0 ≡ (jobs_of k).start i
  pub deadline : (i : ℕ) → i < length M.starts → written M i ≡ latest_of k i
  pub held : (a b : ℕ) → T (ordered M.orders a b) → (a < length M.starts) × (b < length M.starts)
  pub order : (a b : ℕ) → T (ordered M.orders a b) → T ((jobs_of k).before a b)

-- the record that comes next: the next job, or once all are there an order that the book has
abbrev pub Next : Book → Listed → Record → Type 0
Next k M (Job start deadline) = (length M.starts < k.size) × (start ≡ (jobs_of k).start (length M.starts)) × (deadline ≡ latest_of k (length M.starts))
Next k M (Order a b) = (k.size ≤ length M.starts) × T ((jobs_of k).before a b)
Next k M (Deadline job deadline) = ⊥

pub part_nothing : (k : Book) → Part k nothing_listed
unfolding ordered
part_nothing k = record {
  even = refl;
  fewer = omega arith;
  start = λ i l. absurd (omega arith);
  deadline = λ i l. absurd (omega arith);
  held = λ a b t. absurd t;
  order = λ a b t. absurd t;
}

-- a row one entry longer agrees where the entry does
snoc_agrees : (l : List ℕ) (v : ℕ) (row : ℕ → ℕ) → ((i : ℕ) → i < length l → get_or l i 0 ≡ row i) → v ≡ row (length l) →
    (i : ℕ) → i < length (l ++ (v ∷ [])) → get_or (l ++ (v ∷ [])) i 0 ≡ row i
snoc_agrees l v row h e i lt =
    let n : i < suc (length l) = omega (arith, length-append l (v ∷ [])) in
    rw (getD_put l v 0 i n) (put_all (λ (x y : ℕ). x < suc (length l) → y ≡ row x) (λ j. get_or l j 0) (length l) v i (λ z. e) (λ f z. h i (omega arith)) n)

module _ (k : Book) (L : Listed) (t : Told k L) where
  closed : Closed (jobs_of k)
  closed = reads_closed L (jobs_of k) t.holds.reads

  pub loopless : (a b : ℕ) → T ((jobs_of k).before a b) → T ((jobs_of k).before b a) → ⊥
  loopless a b x y =
      let h = t.shaped.before_rest a b x in
      (reads_loopless L (jobs_of k) t.holds.reads t.holds.loopless).never a h.0 (closed.joins a b a h.0 h.1 h.0 x y)

  -- ---- the book's own limits
  module _ (i : ℕ) (l : i < k.size) where
    pub start_low : (jobs_of k).start i ≤ 4095
    start_low = omega (arith, t.holds.reads.start i l, t.limited.start i (omega (arith, t.holds.reads.size)))

    pub latest_high : latest_of k i ≤ 4096
    latest_high = omega (arith, t.holds.latest.beneath i l, t.limited.deadline i (omega (arith, t.holds.reads.size)))

    window : (jobs_of k).start i < latest_of k i
    window = omega (arith, t.holds.earliest.raised.above i l, t.holds.latest.consistent.window i l)

  module _ (M : Listed) (p : Part k M) where
    pub part_chain : {a b : ℕ} → Chain M.orders a b → T ((jobs_of k).before a b)
    part_chain (link {a = a} {b = b} x) = p.order a b x
    part_chain (join {a = a} {b = b} {c = c} x y) =
        let u = part_chain x in
        let v = part_chain y in
        let h = t.shaped.before_rest a b u in
        closed.joins a b c h.0 h.1 (t.shaped.before_rest b c v).1 u v

    -- the plan of the book is a plan of the part
    part_planned : Plannable M
    part_planned = among_planned M (jobs_of k) (latest_of k) (record { even = p.even; held = p.held }) p.fewer p.start p.deadline (λ a b la lb c. part_chain c)
        (row_has_plan 2 (jobs_of k) t.holds.early (latest_of k) (omega arith) (omega arith) closed t.holds.earliest t.holds.latest.consistent)

  -- ---- one record more
  pub next_part : (M : Listed) (r : Record) → Part k M → Next k M r → Part k (grow M (asks r))
  unfolding with_job with_order written
  next_part M (Job s d) p (room, es, ed) = record {
    even = omega (arith, p.even, length-append M.starts (s ∷ []), length-append M.deadlines (d ∷ []));
    fewer = omega (arith, length-append M.starts (s ∷ []));
    start = snoc_agrees M.starts s (jobs_of k).start p.start es;
    deadline = λ i l. snoc_agrees M.deadlines d (latest_of k) (λ j h. p.deadline j (omega (arith, p.even))) (rw p.even ed) i
        (omega (arith, p.even, length-append M.starts (s ∷ []), length-append M.deadlines (d ∷ [])));
    held = λ a b x. let h = p.held a b x in (omega (arith, length-append M.starts (s ∷ [])), omega (arith, length-append M.starts (s ∷ [])));
    order = p.order;
  }
  next_part M (Order a b) p (all, x) = record {
    even = p.even;
    fewer = p.fewer;
    start = p.start;
    deadline = p.deadline;
    held = λ c d y. ⊎_elim (λ u. p.held c d u) (λ u. let h = t.shaped.before_rest a b x in (omega (arith, u.0), omega (arith, u.1))) ((ordered_append M.orders a b c d).0 y);
    order = λ c d y. ⊎_elim (λ u. p.order c d u) (λ u. rw (u.0, u.1) x) ((ordered_append M.orders a b c d).0 y);
  }
  next_part M (Deadline j d) p x = absurd x

  -- passes every check
  next_clear : (M : Listed) (r : Record) → Part k M → Next k M r → Clear (request_checks M (asks r))
  next_clear M (Job s d) p (room, es, ed) =
      let i = length M.starts in
      let low = start_low i room in
      let high = latest_high i room in
      let apart = window i room in (
        ((λ f. omega (arith, t.shaped.few)), ((λ f. ⊎_elim (λ g. omega arith) (λ g. omega arith) f), λ f. omega arith)),
        λ none. none (part_planned (grow M (asks (Job s d))) (next_part M (Job s d) p (room, es, ed))),
      )
  next_clear M (Order a c) p (all, y) =
      let h = t.shaped.before_rest a c y in (
        (
          held_clear 0 (length M.starts) a c (omega arith) (omega arith),
          loop_clear 0 M.orders a c (λ e. let z = rw e at y in loopless c c z z) (λ z. loopless a c y (part_chain M p z)),
        ),
        λ none. none (part_planned (grow M (asks (Order a c))) (next_part M (Order a c) p (all, y))),
      )
  next_clear M (Deadline j d) p y = absurd y

  pub next_accepted : (M : Listed) (r : Record) (b : Book) (a : Applied) → Part k M → Next k M r → Outcome M b (asks r) a → Grown (grow M (asks r)) (accepts_with M (asks r)) a
  next_accepted M r b a p n x = table_free _ _ _ a (next_clear M r p n) x
