-- Pairs laid flat, taken in one by one: the rows spell their chains, and no loop is closed.
-- Assumes nothing.
use mathlib.Core.List.{List, [], ◌∷◌, ◌++◌}
use mathlib.Core.Logic.{◌↔◌, ◌⊎◌, inl, inr, ⊎_elim}
use mathlib.Core.Path.{◌≡◌, refl, sym, ap, subst, ◌∙◌}
use Prim.Native.Nat.{ℕ, zero, suc, ◌+◌, ◌*◌, ◌/◌, ◌≤◌, ◌<◌}
use native.Mathlib.Nat.{not-suc-le-zero, eq-or-lt_of_le}
use native.Mathlib.Numerals.{add-one}
use native.Mathlib.Omega.{arith}
use borrow.Author.Count.{below_more}
use lib.Dec.{T}
use Rattle.std.specs.Prelude.{Some, Result, Ok, Err, IsOk, IsErr, ⊤}
use lib.ListN.{length, get_or, drop, replicate}
use Rattle.std.specs.declared.iter.Enumerate.{Enumerate}
use Rattle.std.specs.declared.iter.Zip.{Zip}
use Rattle.std.specs.declared.slice.ChunksExact.{ChunksExact}
use Rattle.std.specs.declared.slice.Iter.{Iter}
use Rattle.std.specs.Iterator.Adapters.{enumerate_source, enumerate_count, enumerate_steps, zip_first, zip_second, zip_steps}
use Rattle.std.specs.Slice.Iter.{iter_rest, iter_steps, chunks_exact_rest, chunks_exact_size, chunks_exact_steps}
use Rattle.std.proofs.lemmas.Grind.{common_steps}
use Rattle.std.proofs.lemmas.List.{length-append, length-drop, drop-drop, drop_at}
use denote.Ref.{Bor}
use Rattle.schedule.specs.Listed.{ordered, Chain, link, join}
use Rattle.schedule.proofs.Search.{split_last}
use Rattle.schedule.proofs.Chains.{chain_grows, chain_held, ordered_append}
use Rattle.sets.specs.Sets.{has}
use Rattle.planner.specs.List.{first_of, second_of, pairs_of, order_at}
use Rattle.refusal.specs.declared.Refusal.{Refusal}
use Rattle.refusal.specs.Table.{Checks, places, Clear}
use Rattle.refusal.specs.declared.Reason.{Reason}
use Rattle.planner.specs.Inner.Passes.{Passes, at_place}
use Rattle.planner.specs.Inner.Entries.{Held, Spells, Closes, TakesIn}
use Rattle.book.proofs.Empty.{zeros}
use Rattle.sets.proofs.Bits.{empty_has}
use Rattle.planner.proofs.Orders.{held_left, loop_left}

-- ---- checks place by place
-- after m places without a fault: the fault of the next is that of all
pub found_at : {A : Type 0} (n : ℕ) (at : ℕ → Checks) (m p : ℕ) (r : Result A Refusal) → p < n → p ≡ m → ((j : ℕ) → j < m → Clear (at j)) → IsErr r → Passes (at p) r → Passes (places n at) r
found_at n at m p (Ok x) l same before e h = cc
found_at n at m p (Err refusal) l same before e h = (p, l, rw same before, h)

-- and where it has none, one more is clear
pub clear_more : {A : Type 0} (at : ℕ → Checks) (m p : ℕ) (r : Result A Refusal) → p ≡ m → ((j : ℕ) → j < m → Clear (at j)) → IsOk r → Passes (at p) r → (j : ℕ) → j < m + 1 → Clear (at j)
clear_more at m p (Ok x) same before o h = below_more _ _ before (rw same at h)
clear_more at m p (Err refusal) same before o h = cc

-- ---- two rows of one length, side by side
-- the entries of the count come next
pub record AtEntry (xs ys : List ℕ) (s : Enumerate (Zip (Iter ℕ) (Iter ℕ))) : Type 0 where
  pub even : length xs ≡ length ys
  pub left : iter_rest (zip_first (enumerate_source s)) ≡ drop (enumerate_count s) xs
  pub right : iter_rest (zip_second (enumerate_source s)) ≡ drop (enumerate_count s) ys
  pub few : enumerate_count s ≤ length xs

-- two entries that came, and what stands behind them
pub record Beside (xs ys : List ℕ) (s t : Enumerate (Zip (Iter ℕ) (Iter ℕ))) (i x y : ℕ) : Type 0 where
  pub place : i ≡ enumerate_count s
  pub below : i < length xs
  pub left : x ≡ get_or xs i 0
  pub right : y ≡ get_or ys i 0
  pub counts : enumerate_count t ≡ enumerate_count s + 1
  pub onward : AtEntry xs ys t

behind : (xs rest : List ℕ) (n m x : ℕ) → drop n xs ≡ x ∷ rest → m ≡ n + 1 → rest ≡ drop m xs
behind xs rest n m x e f = rw (f, ← drop-drop 1 n xs, e) refl

pub beside : (xs ys : List ℕ) (s t : Enumerate (Zip (Iter ℕ) (Iter ℕ))) (i : ℕ) (x y : Bor ℕ) → AtEntry xs ys s → enumerate_steps (zip_steps iter_steps iter_steps) s (Some (i, (x, y))) t → Beside xs ys s t i x.now y.now
beside xs ys s t i x y a step = record {
  place = grind arith;
  below = grind (arith, common_steps);
  left = grind (arith, common_steps);
  right = grind (arith, common_steps);
  counts = grind arith;
  onward = record {
    even = a.even;
    left = behind xs _ (enumerate_count s) _ x.now (grind arith) (grind arith);
    right = behind ys _ (enumerate_count s) _ y.now (grind arith) (grind arith);
    few = grind (arith, common_steps);
  };
}

-- ---- pairs laid flat, one after the other
-- the pair of the count comes next
pub record AtPair (pairs : List ℕ) (s : Enumerate (ChunksExact ℕ)) : Type 0 where
  pub two : chunks_exact_size (enumerate_source s) ≡ 2
  pub rest : chunks_exact_rest (enumerate_source s) ≡ drop (2 * enumerate_count s) pairs
  pub few : enumerate_count s ≤ length pairs / 2

-- a pair that came, and what stands behind it
pub record Met (pairs : List ℕ) (s t : Enumerate (ChunksExact ℕ)) (p : ℕ) (pair : List ℕ) : Type 0 where
  pub place : p ≡ enumerate_count s
  pub below : p < length pairs / 2
  pub first : get_or pair 0 0 ≡ first_of pairs p
  pub second : get_or pair 1 0 ≡ second_of pairs p
  pub counts : enumerate_count t ≡ enumerate_count s + 1
  pub onward : AtPair pairs t

module _ (pairs : List ℕ) (s t : Enumerate (ChunksExact ℕ)) (p : ℕ) (pair : Bor (List ℕ)) (a : AtPair pairs s) (step : enumerate_steps chunks_exact_steps s (Some (p, pair)) t) where
  whole : drop (2 * enumerate_count s) pairs ≡ pair.now ++ chunks_exact_rest (enumerate_source t)
  whole = grind (arith, common_steps)

  long : length pair.now ≡ 2
  long = grind arith

  room : 2 * enumerate_count s + 2 ≤ length pairs
  room = omega (arith, a.few, length-drop (2 * enumerate_count s) pairs, ap length whole, length-append pair.now (chunks_exact_rest (enumerate_source t)), long)

  counted : enumerate_count t ≡ enumerate_count s + 1
  counted = grind arith

  pub pair_met : Met pairs s t p pair.now
  pair_met = record {
    place = grind arith;
    below = omega (arith, room);
    first = grind (arith, common_steps, whole, long);
    second = grind (arith, common_steps, whole, long);
    counts = counted;
    onward = record {
      two = grind arith;
      rest = sym (ap (λ n. drop n pairs) (omega (arith, counted)) ∙ sym (drop-drop 2 (2 * enumerate_count s) pairs) ∙ ap (drop 2) whole ∙ drop_at _ _ 2 long);
      few = omega (arith, room, counted);
    };
  }

-- a chain that was, or one through a before b
abbrev Through : (ℕ → ℕ → Type 0) → ℕ → ℕ → ℕ → ℕ → Type 0
Through C a b x y = C x y ⊎ (((x ≡ a) ⊎ C x a) × ((b ≡ y) ⊎ C b y))

through_map : (C D : ℕ → ℕ → Type 0) → ((x y : ℕ) → C x y → D x y) → (a b x y : ℕ) → Through C a b x y → Through D a b x y
through_map C D f a b x y t =
    ⊎_elim (λ c. inl (f x y c)) (λ c. inr (⊎_elim (λ e. inl e) (λ d. inr (f x a d)) c.0, ⊎_elim (λ e. inl e) (λ d. inr (f b y d)) c.1)) t

-- one pair more
pub pairs_grow : (pairs : List ℕ) (n x y : ℕ) → Chain (pairs_of pairs (suc n)) x y ↔ Through (Chain (pairs_of pairs n)) (first_of pairs n) (second_of pairs n) x y
unfolding pairs_of
pairs_grow pairs n = chain_grows (pairs_of pairs n) (pairs_of pairs (suc n)) (first_of pairs n) (second_of pairs n) (ordered_append (pairs_of pairs n) (first_of pairs n) (second_of pairs n))

-- chains of the first pairs are chains of more
pub pairs_more : (pairs : List ℕ) (n m : ℕ) → n ≤ m → (x y : ℕ) → Chain (pairs_of pairs n) x y → Chain (pairs_of pairs m) x y
pairs_more pairs n zero l x y c = subst (λ k. Chain (pairs_of pairs k) x y) (omega arith) c
pairs_more pairs n (suc m) l x y c =
    ⊎_elim (λ e. subst (λ k. Chain (pairs_of pairs k) x y) e c) (λ h. (pairs_grow pairs m x y).1 (inl (pairs_more pairs n m (omega arith) x y c))) (eq-or-lt_of_le l)

-- a pair is in the list
pub pairs_in : (pairs : List ℕ) (n p : ℕ) → p < n → T (ordered (pairs_of pairs n) (first_of pairs p) (second_of pairs p))
unfolding pairs_of
pairs_in pairs zero p l = absurd (not-suc-le-zero l)
pairs_in pairs (suc n) p l =
    (ordered_append (pairs_of pairs n) (first_of pairs n) (second_of pairs n) (first_of pairs p) (second_of pairs p)).1
    (⊎_elim (λ e. inr (ap (first_of pairs) e, ap (second_of pairs) e)) (λ h. inl (pairs_in pairs n p h)) (split_last l))

-- what an order that already follows adds was there
follows_old : (o : List (ℕ × ℕ)) (a b x y : ℕ) → Chain o a b → Through (Chain o) a b x y → Chain o x y
follows_old o a b x y c (inl u) = u
follows_old o a b x y c (inr u) = ⊎_elim (λ s. subst (λ i. Chain o i y) (sym s) tail) (λ s. join s tail) u.0
  where
    tail : Chain o a y
    tail = ⊎_elim (λ s. subst (Chain o a) s c) (λ s. join c s) u.1

-- ---- the rows
pub no_chain : {a b : ℕ} → Chain [] a b → ⊥
unfolding ordered
no_chain (link t) = t
no_chain (join s t) = no_chain s

pub spells_none : (pairs : List ℕ) → Spells pairs 0 (replicate 64 0)
unfolding pairs_of
spells_none pairs = record { long = refl; chains = λ a b. ((λ t. absurd (rw (zeros 64 b, empty_has a) at t)), (λ c. absurd (no_chain c))) }

pub spells_more : (pairs rows next : List ℕ) (n : ℕ) → Spells pairs n rows → TakesIn (first_of pairs n) (second_of pairs n) rows next → Spells pairs (n + 1) next
spells_more pairs rows next n s f = rw add-one (record { long = ⊎_elim (λ u. rw u.1 s.long) (λ u. u.0) f; chains = go f })
  where
    a : ℕ
    a = first_of pairs n

    b : ℕ
    b = second_of pairs n

    o : List (ℕ × ℕ)
    o = pairs_of pairs n

    go : TakesIn a b rows next → (x y : ℕ) → T (has (get_or next y 0) x) ↔ Chain (pairs_of pairs (suc n)) x y
    go (inl u) x y = rw u.1 (
      (λ t. (pairs_grow pairs n x y).1 (inl ((s.chains x y).0 t))),
      (λ c. (s.chains x y).1 (follows_old o a b x y ((s.chains a b).0 u.0) ((pairs_grow pairs n x y).0 c))),
    )
    go (inr u) x y = (
      (λ t. (pairs_grow pairs n x y).1 (through_map (λ x y. T (has (get_or rows y 0) x)) (Chain o) (λ x y t. (s.chains x y).0 t) a b x y ((u.1 x y).0 t))),
      (λ c. (u.1 x y).1 (through_map (Chain o) (λ x y. T (has (get_or rows y 0) x)) (λ x y c. (s.chains x y).1 c) a b x y ((pairs_grow pairs n x y).0 c))),
    )

-- the fault of a pair by the loop that it closes with those before it
pub earned : (pairs rows : List ℕ) (p a b : ℕ) (r : Result ⊤ Reason) → Spells pairs p rows → a ≡ first_of pairs p → b ≡ second_of pairs p → Closes rows a b r → Passes (order_at pairs p) (at_place p r)
earned pairs rows p a b r s e f x = rw (e, f) at (x (pairs_of pairs p) p (s.chains b a))

-- ---- what the checks leave
pub held_both : (size : ℕ) (pairs : List ℕ) → Held size pairs → (p a b : ℕ) → p < length pairs / 2 → a ≡ first_of pairs p → b ≡ second_of pairs p → (a < size) × (b < size)
held_both size pairs h p a b l e f = rw (e, f) (held_left p size (first_of pairs p) (second_of pairs p) (h.below p l))

pub pairs_held : (size : ℕ) (pairs : List ℕ) → Held size pairs → (n : ℕ) → n ≤ length pairs / 2 → (a b : ℕ) → T (ordered (pairs_of pairs n) a b) → (a < size) × (b < size)
unfolding pairs_of ordered
pairs_held size pairs h zero l a b t = absurd t
pairs_held size pairs h (suc n) l a b t =
    ⊎_elim (λ u. pairs_held size pairs h n (omega arith) a b u)
    (λ u. held_both size pairs h n a b (omega arith) u.0 u.1)
    ((ordered_append (pairs_of pairs n) (first_of pairs n) (second_of pairs n) a b).0 t)

-- and so are the jobs that the rows have
pub spells_held : (size : ℕ) (pairs rows : List ℕ) (n : ℕ) → Held size pairs → n ≤ length pairs / 2 → Spells pairs n rows → (a b : ℕ) → T (has (get_or rows b 0) a) → (a < size) × (b < size)
spells_held size pairs rows n h l s a b t = chain_held (pairs_of pairs n) size (pairs_held size pairs h n l) ((s.chains a b).0 t)

pub pairs_loopless : (pairs : List ℕ) (n : ℕ) → ((p : ℕ) → p < n → Clear (order_at pairs p)) → (x : ℕ) → Chain (pairs_of pairs n) x x → ⊥
unfolding pairs_of
pairs_loopless pairs zero h x c = no_chain c
pairs_loopless pairs (suc n) h x c =
    ⊎_elim (λ u. pairs_loopless pairs n (λ p l. h p (omega arith)) x u) (λ u. ⊎_elim left.0 left.1 (closes x u.0 u.1)) ((pairs_grow pairs n x x).0 c)
  where
    a : ℕ
    a = first_of pairs n

    b : ℕ
    b = second_of pairs n

    C : ℕ → ℕ → Type 0
    C = Chain (pairs_of pairs n)

    left : (a ≡ b → ⊥) × (C b a → ⊥)
    left = loop_left n (pairs_of pairs n) a b (h n (omega arith))

    closes : (x : ℕ) → (x ≡ a) ⊎ C x a → (b ≡ x) ⊎ C b x → (a ≡ b) ⊎ C b a
    closes x (inl s) (inl t) = inl (sym (t ∙ s))
    closes x (inl s) (inr t) = inr (subst (C b) s t)
    closes x (inr s) (inl t) = inr (subst (λ i. C i a) (sym t) s)
    closes x (inr s) (inr t) = inr (join t s)
