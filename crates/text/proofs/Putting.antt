-- Text put, and more behind it, is one text put.
-- Assumes nothing.
use mathlib.Core.List.{List, [], ◌∷◌, ◌++◌, append-nil}
use mathlib.Core.Logic.{◌⊎◌, inl, inr, ⊎_elim}
use mathlib.Core.Path.{◌≡◌, refl, sym, ap, ap₂, ◌∙◌}
use Prim.Native.Nat.{ℕ, suc, ◌+◌, ◌-◌, ◌≤◌, ◌<◌}
use native.Mathlib.Decide.{dec_le}
use native.Mathlib.Nat.{add-zero, zero-add}
use native.Mathlib.Omega.{arith}
use lib.ListN.{length, take, drop, set, length-append}
use lib.Seq.{sets, sets-eq, length-sets, take_all, take-append-le, take-append-add, take-nil, length-take-le}
use Rattle.text.specs.Put.{fitting, Puts, Adds}
use Rattle.text.specs.declared.Page.{Page}

pub le_or_lt : (a b : ℕ) → (a ≤ b) ⊎ (b < a)
le_or_lt a b = go (dec_le a b)
  where
    go : Dec (a ≤ b) → (a ≤ b) ⊎ (b < a)
    go (yes h) = inl h
    go (no h) = inr (omega arith)

-- bytes stored one after the other are stored together
sets_append : (xs ys l : List ℕ) (i : ℕ) → sets (sets l i xs) (i + length xs) ys ≡ sets l i (xs ++ ys)
sets_append [] ys l i = ap (λ (n : ℕ). sets l n ys) (add-zero i)
sets_append (x ∷ xs) ys l i =
    let e : i + suc (length xs) ≡ suc i + length xs = omega arith in
    ap (λ (n : ℕ). sets (sets (set l i x) (suc i) xs) n ys) e ∙ sets_append xs ys (set l i x) (suc i)

-- one outcome
pub puts_only : {text old new new' : List ℕ} {at next next' : ℕ} → Puts text at old new next → Puts text at old new' next' → (new ≡ new') × (next ≡ next')
puts_only p q = (p.bytes ∙ sym q.bytes, p.behind ∙ sym q.behind)

pub puts_length : {text old new : List ℕ} {at next : ℕ} → Puts text at old new next → length new ≡ length old
puts_length {text} {old} {new} {at} p = ap length p.bytes ∙ length-sets old at (fitting text at old)

pub puts_none : (out : List ℕ) (at : ℕ) → Puts [] at out out at
puts_none out at = let e = take-nil {A = ℕ} (length out - at) in record { bytes = rw e; behind = rw e (omega arith) }

-- ---- where there is room
module _ (text : List ℕ) (at : ℕ) (out : List ℕ) (room : at + length text ≤ length out) where
  fits : fitting text at out ≡ text
  fits = take_all (length out - at) text (omega arith)

  -- the whole text is stored
  pub puts_stored : {new : List ℕ} {next : ℕ} → Puts text at out new next → (new ≡ sets out at text) × (next ≡ at + length text)
  puts_stored p = (p.bytes ∙ ap (sets out at) fits, p.behind ∙ ap (λ l. at + length l) fits)

  -- and stands there
  pub puts_whole : {new : List ℕ} {next : ℕ} → Puts text at out new next → (new ≡ take at out ++ text ++ drop (at + length text) out) × (next ≡ at + length text)
  puts_whole p = ((puts_stored p).0 ∙ sets-eq text out at room, (puts_stored p).1)

-- at the front
pub puts_front : {text old new : List ℕ} {next : ℕ} → length text ≤ length old → Puts text 0 old new next → (new ≡ text ++ drop (length text) old) × (next ≡ length text) × (next ≤ length new)
puts_front {text} {old} room p =
    let w = puts_whole text 0 old (omega arith) p in
    (rw (← zero-add (length text)) w.0, omega (arith, w.1), omega (arith, w.1, puts_length p))

-- ---- one behind the other
pub puts_then : {s t a b c : List ℕ} {at m n : ℕ} → Puts s at a b m → Puts t m b c n → Puts (s ++ t) at a c n
puts_then {s} {t} {a} {b} {c} {at} {m} {n} p q = ⊎_elim whole part (le_or_lt (length s) (length a - at))
  where
    same : length b ≡ length a
    same = puts_length p

    by : (more : List ℕ) → fitting s at a ++ more ≡ fitting (s ++ t) at a → fitting t m b ≡ more → Puts (s ++ t) at a c n
    by more e f = record {
      bytes = q.bytes ∙ ap (sets b m) f ∙ ap₂ (λ l i. sets l i more) p.bytes p.behind ∙ sets_append (fitting s at a) more a at ∙ ap (sets a at) e;
      behind = q.behind ∙ omega (arith, p.behind, ap length f, ap length e, length-append (fitting s at a) more);
    }

    whole : length s ≤ length a - at → Puts (s ++ t) at a c n
    whole h =
        let k = length a - at - length s in
        let left : length b - m ≡ k = omega (arith, same, p.behind, ap length (take_all (length a - at) s h)) in
        let all : length a - at ≡ length s + k = omega arith in
        by (take k t) (ap (λ l. l ++ take k t) (take_all (length a - at) s h) ∙ sym (ap (λ i. take i (s ++ t)) all ∙ take-append-add s t k)) (ap (λ i. take i t) left)

    part : length a - at < length s → Puts (s ++ t) at a c n
    part h =
        let left : length b - m ≡ 0 = omega (arith, same, p.behind, length-take-le (length a - at) s (omega arith)) in
        by [] (append-nil (fitting s at a) ∙ sym (take-append-le (length a - at) s t (omega arith))) (ap (λ i. take i t) left)

-- ---- pages
-- one outcome: the bytes and the place
pub adds_only : {text : List ℕ} {from to to' : Page} → Adds text from to → Adds text from to' → (to.out.now ≡ to'.out.now) × (to.at ≡ to'.at)
adds_only p q = puts_only p.puts q.puts

pub adds_none : (page : Page) → Adds [] page page
adds_none page = record { puts = puts_none page.out.now page.at; lent = refl }

pub adds_then : {s t : List ℕ} {a b c : Page} → Adds s a b → Adds t b c → Adds (s ++ t) a c
adds_then p q = record { puts = puts_then p.puts q.puts; lent = q.lent ∙ p.lent }
