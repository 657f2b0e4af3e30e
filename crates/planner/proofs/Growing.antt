-- What a book holds after each step of the code.
-- Assumes nothing.
use mathlib.Core.Path.{◌≡◌, refl, sym, ap, subst, ◌∙◌, fun_ext}
use mathlib.Core.Bool.{Bool, true, false}
use mathlib.Core.List.{List, [], ◌∷◌}
use mathlib.Core.Logic.{◌⊎◌, inl, inr, ⊎_elim, ◌↔◌}
use Prim.Native.Nat.{ℕ, suc, ◌+◌, min, ◌≤◌, ◌<◌}
use native.Mathlib.Omega.{arith}
use lib.Dec.{T}
use lib.ListN.{length, get_or, set, length-set, length-append, get_or-eq_default}
use lib.Seq.{get_or-set_same, get_or-set_other}
use Rattle.schedule.specs.Row.{put}
use Rattle.schedule.specs.Listed.{Listed, Chain, written, with_job, with_order, with_deadline}
use Rattle.schedule.specs.Grow.{Added, Linked}
use Rattle.schedule.specs.Plan.{HasPlan}
use Rattle.schedule.specs.Times.{Earliest, Latest}
use Rattle.schedule.proofs.Tests.{le_or_lt}
use Rattle.schedule.proofs.Rows.{put_all, put_other}
use Rattle.schedule.proofs.Loop.{put_set}
use Rattle.schedule.proofs.Chains.{reads_closed, reads_loopless, getD_put}
use Rattle.schedule.proofs.Onward.{Onward, holds_planned, onward_job, onward_order, onward_deadline}
use Rattle.schedule.proofs.Book.{holds_followed, holds_kept}
use Rattle.sets.specs.Sets.{has}
use Rattle.book.specs.Told.{Book, cores, jobs_of, latest_of, row_in, Shaped, Limited, Told}
use Rattle.refusal.specs.Table.{Clear, Table, refused, passed}
use Rattle.planner.specs.Requests.{held_checks, loop_checks, plan_check, Applied, answered, Turned, Grown}
use Rattle.book.proofs.Parts.{with_latest}
use Rattle.planner.specs.Inner.Chains.{Links}
use Rattle.planner.specs.Inner.Tighten.{Tightens}
use Rattle.planner.specs.Inner.Tighten.Early.{Startable}
use Rattle.schedule.proofs.Readings.{plan_one}
use Rattle.planner.proofs.Orders.{held_clear, loop_clear}

pub true_T : (b : Bool) → b ≡ true → T b
true_T b e = rw e tt

pub false_T : (b : Bool) → b ≡ false → T b → ⊥
false_T b e t = rw e at t

-- ---- the last check
-- 4, and then the request is accepted
abbrev pub Last : Listed → ℕ → Book → Applied → Type 0
Last L value k = Table (plan_check L) (Turned k) (Grown L value)

-- a book that holds the enlarged list is accepted
pub told_last : (L : Listed) (value told : ℕ) (k b : Book) → told ≡ value → Told b L → Last L value k (answered b 0 told)
told_last L value told k b e t = passed (λ no. no (holds_planned 2 (omega arith) (omega arith) L (jobs_of b) (latest_of b) t.holds)) (record { accepts = ap (answered b 0) e; told = t })

-- the enlarged list L, and the grown book that the code tightens for it
pub record Grows (L : Listed) (grown : Book) : Type 0 where
  pub shaped : Shaped grown
  pub limited : Limited L
  pub late : (i : ℕ) → i < grown.size → latest_of grown i ≤ 4096
  pub onward : Onward 2 L (jobs_of grown) (latest_of grown)

-- its rows may be tightened
pub grows_ready : (L : Listed) (grown : Book) → Grows L grown → Startable grown.size grown.start grown.before
grows_ready L grown g = record {
  few = g.shaped.few;
  long = omega (arith, g.shaped.few, g.shaped.starts);
  starts = λ i l. omega (arith, g.onward.reads.start i l, g.limited.start i (omega (arith, g.onward.reads.size)));
  closed = reads_closed L (jobs_of grown) g.onward.reads;
  loopless = reads_loopless L (jobs_of grown) g.onward.reads g.onward.loopless;
  inside = g.shaped.before_rest;
}

-- the row holds the latest times under the book's
pub record Tight (k : Book) (row : List ℕ) : Type 0 where
  pub size : length row ≡ 64
  pub rest : (i : ℕ) → k.size ≤ i → get_or row i 0 ≡ 0
  pub latest : (early : ℕ → ℕ) → Earliest (jobs_of k) early → Latest 2 (jobs_of k) early (latest_of k) (row_in row)

-- the grown book, tightened, is accepted
pub tight_last : (L : Listed) (k grown : Book) (told value : ℕ) (row : List ℕ) → told ≡ value → Grows L grown → Tight grown row → Last L value k (answered (with_latest grown row) 0 told)
tight_last L k grown told value row e g t = told_last L value told k (with_latest grown row) e (record {
  shaped = record {
    few = g.shaped.few;
    starts = g.shaped.starts;
    latests = t.size;
    befores = g.shaped.befores;
    start_rest = g.shaped.start_rest;
    latest_rest = t.rest;
    before_rest = g.shaped.before_rest;
  };
  limited = g.limited;
  holds = g.onward.holds (λ i. get_or row i 0) (t.latest g.onward.early g.onward.earliest);
})

module _ (L : Listed) (k grown : Book) (value : ℕ) (g : Grows L grown) where
  -- a row that the engine gave back is taken
  pub fits_last : (row : List ℕ) → Tightens cores grown.size grown.start grown.before grown.latest row true → (b : Book) (told : ℕ) → b ≡ with_latest grown row → told ≡ value → Last L value k (answered b 0 told)
  fits_last row t b told s e = rw s (tight_last L k grown told value row e g (record { size = t.length; rest = λ i l. t.rest refl i l ∙ g.shaped.latest_rest i l; latest = t.latest refl }))

  -- or the request is refused
  pub none_last : (HasPlan cores (jobs_of grown) (latest_of grown) → ⊥) → (b : Book) → b ≡ k → Last L value k (answered b 4 0)
  none_last none b s = refused 4 0 ((λ p. none (g.onward.plans (plan_one 2 L p.0 (jobs_of grown) (written L) p.1 g.onward.reads p.2))), refl, refl) (ap (λ (k : Book). answered k 4 0) s)

-- a stored entry, as a row
set_put : (l : List ℕ) (k v : ℕ) → k < length l → (λ i. get_or (set l k v) i 0) ≡ put (λ i. get_or l i 0) k v
set_put l k v h = fun_ext (λ i. go i (le_or_lt (length l) i))
  where
    go : (i : ℕ) → (length l ≤ i) ⊎ (i < length l) → get_or (set l k v) i 0 ≡ put (λ i. get_or l i 0) k v i
    go i (inl le) = get_or-eq_default (set l k v) 0 (omega (arith, length-set l k v)) ∙ sym (get_or-eq_default l 0 le) ∙ sym (put_other (λ i. get_or l i 0) k v i (λ e. omega arith))
    go i (inr lt) = sym (put_set l k v 0 i lt)

-- ---- the three requests
module _ (L : Listed) (k : Book) (t : Told k L) where
  pub size_is : k.size ≡ length L.starts
  size_is = t.holds.reads.size

  latest_limit : (i : ℕ) → i < k.size → latest_of k i ≤ 4096
  latest_limit i l = omega (arith, t.holds.latest.beneath i l, t.limited.deadline i (omega (arith, size_is)))

  -- a new job
  module _ (s d : ℕ) (room : k.size < 64) (low : s ≤ 4095) (high : d ≤ 4096) where
    abbrev added : Book
    added = record { size = k.size + 1; start = set k.start k.size s; latest = set k.latest k.size d; before = k.before }

    added_added : Added (jobs_of k) (jobs_of added) s
    added_added = record {
      size = omega arith;
      new = get_or-set_same k.start k.size s 0 (omega (arith, t.shaped.starts));
      starts = λ i l. get_or-set_other k.start k.size i s 0 (λ e. omega arith);
      chains = λ a b la lb. ((λ x. x), (λ x. x));
      none_to = λ a l x. omega (arith, (t.shaped.before_rest a k.size x).1);
      none_from = λ a l x. omega (arith, (t.shaped.before_rest k.size a x).0);
    }

    due : latest_of added ≡ put (latest_of k) k.size d
    due = set_put k.latest k.size d (omega (arith, t.shaped.latests))

    shaped : Shaped added
    shaped = record {
      few = omega arith;
      starts = length-set k.start k.size s ∙ t.shaped.starts;
      latests = length-set k.latest k.size d ∙ t.shaped.latests;
      befores = t.shaped.befores;
      start_rest = λ i l. get_or-set_other k.start k.size i s 0 (λ e. omega arith) ∙ t.shaped.start_rest i (omega arith);
      latest_rest = λ i l. get_or-set_other k.latest k.size i d 0 (λ e. omega arith) ∙ t.shaped.latest_rest i (omega arith);
      before_rest = λ a b x. let y = t.shaped.before_rest a b x in (omega arith, omega arith);
    }

    limited : Limited (with_job L s d)
    unfolding with_job written
    limited = record {
      start = λ i l.
          let n : i < suc (length L.starts) = omega (arith, length-append L.starts (s ∷ [])) in
          rw (getD_put L.starts s 0 i n) (put_all (λ (x y : ℕ). x < suc (length L.starts) → y ≤ 4095) (λ j. get_or L.starts j 0) (length L.starts) s i (λ z. low)
          (λ f z. t.limited.start i (omega arith)) n);
      deadline = λ i l.
          let n : i < suc (length L.deadlines) = omega (arith, length-append L.starts (s ∷ []), t.holds.formed.even) in
          rw (getD_put L.deadlines d 0 i n) (put_all (λ (x y : ℕ). x < suc (length L.deadlines) → y ≤ 4096) (λ j. get_or L.deadlines j 0) (length L.deadlines) d i (λ z. high)
          (λ f z. t.limited.deadline i (omega (arith, t.holds.formed.even))) n);
    }

    pub job_grows : Grows (with_job L s d) added
    job_grows = record {
      shaped = shaped;
      limited = limited;
      late = λ i l. subst (λ (row : ℕ → ℕ). row i ≤ 4096) (sym due) (put_all (λ (x y : ℕ). x < k.size + 1 → y ≤ 4096) (latest_of k) k.size d i (λ z. high) (λ f z. latest_limit i (omega arith)) l);
      onward = rw due (onward_job 2 (omega arith) (omega arith) L (jobs_of k) (latest_of k) t.holds (jobs_of added) s d added_added);
    }

  -- an order of two jobs
  module _ (a b : ℕ) (la : a < k.size) (lb : b < k.size) where
    order_limited : Limited (with_order L a b)
    unfolding with_order written
    order_limited = record { start = t.limited.start; deadline = t.limited.deadline }

    -- both jobs are in the list
    pub order_held : Clear (held_checks 0 (length L.starts) a b)
    order_held = held_clear 0 (length L.starts) a b (omega (arith, size_is)) (omega (arith, size_is))

    -- the rows have b before a exactly where orders lead there
    pub order_reads : T (has (get_or k.before a 0) b) ↔ Chain L.orders b a
    order_reads = t.holds.reads.before b a lb la

    pub order_free : (a ≡ b → ⊥) → (T (has (get_or k.before a 0) b) → ⊥) → Clear (loop_checks 0 L.orders a b)
    order_free apart free = loop_clear 0 L.orders a b apart (λ x. free (order_reads.1 x))

    -- that already follows
    pub followed_told : T (has (get_or k.before b 0) a) → Told k (with_order L a b)
    followed_told x = record { shaped = t.shaped; limited = order_limited; holds = holds_followed 2 L (jobs_of k) (latest_of k) t.holds a b la lb x }

    module _ (rows : List ℕ) (size : length rows ≡ 64) (links : Links a b k.before rows) (apart : a ≡ b → ⊥) (free : T (has (get_or k.before a 0) b) → ⊥) where
      abbrev ordered : Book
      ordered = record { size = k.size; start = k.start; latest = k.latest; before = rows }

      ordered_linked : Linked (jobs_of k) (jobs_of ordered) a b
      ordered_linked = record { size = refl; starts = λ i l. refl; chains = λ x y lx ly. links x y }

      held : (x y : ℕ) → T (has (get_or rows y 0) x) → (x < k.size) × (y < k.size)
      held x y z = ⊎_elim (λ u. t.shaped.before_rest x y u)
          (λ u. (⊎_elim (λ e. omega arith) (λ v. (t.shaped.before_rest x a v).0) u.0, ⊎_elim (λ e. omega arith) (λ v. (t.shaped.before_rest b y v).1) u.1))
          ((links x y).0 z)

      pub order_grows : Grows (with_order L a b) ordered
      order_grows = record {
        shaped = record {
          few = t.shaped.few;
          starts = t.shaped.starts;
          latests = t.shaped.latests;
          befores = size;
          start_rest = t.shaped.start_rest;
          latest_rest = t.shaped.latest_rest;
          before_rest = held;
        };
        limited = order_limited;
        late = latest_limit;
        onward = onward_order 2 (omega arith) (omega arith) L (jobs_of k) (latest_of k) t.holds (jobs_of ordered) a b la lb apart free ordered_linked;
      }

  -- an earlier deadline
  module _ (j d : ℕ) (lj : j < k.size) (high : d ≤ 4096) where
    deadline_limited : Limited (with_deadline L j d)
    unfolding with_deadline written
    deadline_limited = record {
      start = t.limited.start;
      deadline = λ i l. rw (← put_set L.deadlines j (min (get_or L.deadlines j 0) d) 0 i (omega (arith, t.holds.formed.even)))
          (put_all (λ (x y : ℕ). x < length L.starts → y ≤ 4096) (λ q. get_or L.deadlines q 0) j (min (get_or L.deadlines j 0) d) i (λ z. omega arith) (λ f z. t.limited.deadline i z) l);
    }

    -- not below the latest time
    pub kept_told : latest_of k j ≤ d → Told k (with_deadline L j d)
    kept_told h = record { shaped = t.shaped; limited = deadline_limited; holds = holds_kept 2 L (jobs_of k) (latest_of k) t.holds j d lj h }

    module _ (less : d ≤ latest_of k j) where
      abbrev drawn : Book
      drawn = record { size = k.size; start = k.start; latest = set k.latest j d; before = k.before }

      drawn_due : latest_of drawn ≡ put (latest_of k) j d
      drawn_due = set_put k.latest j d (omega (arith, t.shaped.latests, t.shaped.few))

      pub deadline_grows : Grows (with_deadline L j d) drawn
      deadline_grows = record {
        shaped = record {
          few = t.shaped.few;
          starts = t.shaped.starts;
          latests = length-set k.latest j d ∙ t.shaped.latests;
          befores = t.shaped.befores;
          start_rest = t.shaped.start_rest;
          latest_rest = λ i l. get_or-set_other k.latest j i d 0 (λ e. omega arith) ∙ t.shaped.latest_rest i l;
          before_rest = t.shaped.before_rest;
        };
        limited = deadline_limited;
        late = λ i l. subst (λ (row : ℕ → ℕ). row i ≤ 4096) (sym drawn_due) (put_all (λ (x y : ℕ). x < k.size → y ≤ 4096) (latest_of k) j d i (λ z. high) (λ f z. latest_limit i z) l);
        onward = rw drawn_due (onward_deadline 2 (omega arith) (omega arith) L (jobs_of k) (latest_of k) t.holds j d lj less);
      }
