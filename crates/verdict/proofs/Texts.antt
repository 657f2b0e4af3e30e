-- How long the lines of a verdict can be, and a text put on an empty page.
-- Assumes nothing.
use mathlib.Core.Bool.{true}
use mathlib.Core.List.{List, ◌++◌}
use mathlib.Core.Path.{◌≡◌}
use Prim.Native.Nat.{ℕ, suc, ◌^◌, ◌≤◌, ◌<◌}
use native.Mathlib.Omega.{arith}
use lib.Dec.{eqb}
use lib.IntN.{ℤ, pos, negsuc, nat_abs}
use lib.ListN.{length, length-append}
use lib.Signed.{lt_z, mag}
use borrow.Author.Tests.{ltb-true}
use Rattle.text.specs.Text.{word, decimal}
use Rattle.text.specs.declared.Page.{Page}
use Rattle.text.proofs.Decimal.{decimal_short}
use Rattle.text.proofs.Putting.{puts_front}
use Rattle.report.specs.Line.{refused_line, stopped_line}
use Rattle.report.proofs.Short.{either}
use Rattle.verdict.specs.Line.{signed, late_line, short_line, turned_down_line}
use Rattle.verdict.specs.Verdict.{Writes}
use Rattle.verdict.specs.Inner.Short.{AddsShort}

-- ---- on an empty page
pub writes_by : {Kind : List ℕ → Type 0} {from to : Page} → from.at ≡ 0 → 80 ≤ length from.out.now → AddsShort Kind from to → Writes Kind from.out.now to.out.now to.at
writes_by start room a = let f = puts_front (omega (arith, a.short)) (rw start at a.adds.puts) in record { text = a.text; kind = a.kind; bytes = f.0; answer = f.1; within = f.2 }

-- a text of one kind is of another
pub adds_more : {Kind Other : List ℕ → Type 0} {from to : Page} → ((text : List ℕ) → Kind text → Other text) → AddsShort Kind from to → AddsShort Other from to
adds_more f a = record { text = a.text; kind = f a.text a.kind; short = a.short; adds = a.adds }

-- ---- below 0
pub signed_below : (z : ℤ) (size : ℕ) → lt_z z (pos 0) ≡ true → size ≡ nat_abs z → word "-" ++ decimal size ≡ signed z
signed_below (pos n) size below e = absurd (omega (arith, ltb-true n 0 below))
signed_below (negsuc n) size below e = rw e

-- ---- how long
-- the digits of a machine word, and of a byte
word_short : (n : ℕ) → n < 2 ^ 64 → length (decimal n) ≤ 20
word_short n h = decimal_short 19 n (omega arith)

byte_short : (n : ℕ) → n < 256 → length (decimal n) ≤ 3
byte_short n h = decimal_short 2 n (omega arith)

signed_short : (z : ℤ) → mag z < 2 ^ 15 → length (signed z) ≤ 6
signed_short (pos n) h = omega (arith, decimal_short 4 n (omega arith))
signed_short (negsuc n) h = omega (arith, decimal_short 4 (suc n) (omega arith))

pub stopped_short : (value number : ℕ) → value < 2 ^ 64 → number < 256 → length (stopped_line value number) ≤ 80
stopped_short value number h i = simp length-append (omega (arith, word_short value h, byte_short number i))

pub refused_short : (place : ℕ) → place < 2 ^ 64 → length (refused_line place 5) ≤ 80
refused_short place h = simp length-append (omega (arith, word_short place h, byte_short 5 (omega arith)))

pub turned_down_short : (number value : ℕ) → number < 256 → value < 2 ^ 64 → length (turned_down_line number (pos value)) ≤ 80
turned_down_short number value h i = either 80 (eqb number 14) _ _ (omega arith) (simp length-append (omega (arith, byte_short number h, word_short value i)))

pub short_short : (number end : ℕ) → end < 2 ^ 64 → length (short_line number end) ≤ 30
short_short number end h = either 30 (eqb number 0) _ _ (simp length-append (omega (arith, word_short end h))) (omega arith)

-- both lines of a list that is accepted
pub accepted_short : (jobs : ℕ) (slots : ℤ) (number end : ℕ) → jobs < 2 ^ 64 → mag slots < 2 ^ 15 → length (short_line number end) ≤ 30 → length (late_line jobs slots ++ short_line number end) ≤ 80
accepted_short jobs slots number end h i j =
    let first : length (late_line jobs slots) ≤ 42 = simp length-append (omega (arith, word_short jobs h, signed_short slots i)) in
    omega (arith, length-append (late_line jobs slots) (short_line number end), j)
