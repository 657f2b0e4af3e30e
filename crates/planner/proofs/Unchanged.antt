-- A request that says nothing new is accepted and changes nothing (01, Requests on a book: "An order that already follows ..").
-- Assumes nothing.
use mathlib.Core.Path.{◌≡◌, ap, ◌∙◌}
use Prim.Native.Nat.{ℕ, ◌≤◌, ◌<◌}
use native.Mathlib.Omega.{arith}
use lib.ListN.{length}
use Rattle.schedule.specs.declared.JobIndex.{JobIndex}
use Rattle.schedule.specs.Listed.{Listed, Chain}
use Rattle.schedule.proofs.Chains.{chain_held}
use Rattle.schedule.proofs.Onward.{holds_planned}
use Rattle.planner.specs.declared.requests.Request.TheVariants.{Before, Earlier}
use Rattle.book.specs.Told.{Book, jobs_of, latest_of, Told}
use Rattle.planner.specs.Requests.{Applied, answered, Applies}
use Rattle.book.proofs.OneBook.{told_one}
use Rattle.planner.proofs.Growing.{Last, size_is, order_held, followed_told, kept_told}
use Rattle.planner.proofs.Orders.{loop_none}
use Rattle.refusal.proofs.Table.{table_free, table_rest}

-- the book holds the enlarged list already
settled : (L : Listed) (k : Book) (r : Applied) → Told k L → Last L 0 k r → r ≡ answered k 0 0
settled L k r t j =
    let g = table_free _ _ _ r (λ no. no (holds_planned 2 (omega arith) (omega arith) L (jobs_of k) (latest_of k) t.holds)) j in
    g.accepts ∙ ap (λ (b : Book). answered b 0 0) (told_one L r.book k g.told t)

module _ (L : Listed) (k : Book) (t : Told k L) (r : Applied) where
  -- an order that already follows
  pub order_unchanged : (a b : JobIndex) → Chain L.orders a.0 b.0 → Applies k (Before a b) r → r ≡ answered k 0 0
  order_unchanged a b c x =
      let l = chain_held L.orders (length L.starts) t.holds.formed.held c in
      let la : a.0 < k.size = omega (arith, size_is L k t, l.0) in
      let lb : b.0 < k.size = omega (arith, size_is L k t, l.1) in
      settled _ k r (followed_told L k t a.0 b.0 la lb ((t.holds.reads.before a.0 b.0 la lb).1 c))
      (table_rest (order_held L k t a.0 b.0 la lb, loop_none 0 L.orders a.0 b.0 L.orders (λ x r. t.holds.loopless (x, r)) (λ x y r. r) c) (x.outcome L t))

  -- a deadline not below the latest time held
  pub deadline_unchanged : (j : JobIndex) (d : ℕ) → j.0 < k.size → d ≤ 4096 → latest_of k j.0 ≤ d → Applies k (Earlier j d) r → r ≡ answered k 0 0
  deadline_unchanged j d l high h x =
      settled _ k r (kept_told L k t j.0 d l high h)
      (table_rest (
        (λ f. omega (arith, size_is L k t)),
        (
          (λ f. omega arith),
          λ f. omega (arith, t.holds.reads.start j.0 l, t.holds.earliest.raised.above j.0 l, t.holds.latest.consistent.window j.0 l),
        ),
      ) (x.outcome L t))
