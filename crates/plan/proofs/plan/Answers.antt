use mathlib.Core.List.{List, ◌++◌}
use mathlib.Core.Path.{◌≡◌, refl, ap, subst, ◌∙◌}
use Prim.Native.Nat.{ℕ, ◌*◌}
use native.Mathlib.Omega.{arith}
use lib.ListN.{length-take, replicate, drop}
use Rattle.refusal.specs.Table.{refused, passed}
use Rattle.book.specs.Told.{Made, cores}
use Rattle.plan.specs.Plan.{Plans}
use Rattle.plan.specs.Inner.Rows.{told_by}
use Rattle.plan.specs.Inner.Bytes.{seated}
use Rattle.plan.proofs.BookPlan.{finish_fits}
use Rattle.plan.proofs.WrittenBytes.{plan_writable, plan_written}
use Rattle.plan.proofs.plan.Goals as goal

pub overflow_mul-needed : goal.overflow_mul-needed
overflow_mul-needed c = omega (arith, finish_fits (told_by c.of-rows.result) (rw c.of-rows.ensures c.requires), c.lay_out-laid.ensures.ends)

pub returns-then-out-needed : goal.returns-then-out-needed
returns-then-out-needed c =
    let ends = c.lay_out-laid.ensures.ends in
    let old : List ℕ = c.args.out.now in
    subst (λ k. Plans k old old 8 (cores * c.lay_out-laid.result.finish)) c.of-rows.ensures (refused 8 _ (omega (arith, c.if-out-needed.true, ends), refl, refl) (ap (λ n. (8, cores * n, old)) ends))

pub write-requires : goal.write-requires
write-requires c =
    let made : Made (told_by c.of-rows.result) = rw c.of-rows.ensures c.requires in
    plan_writable (told_by c.of-rows.result) made c.lay_out-laid.result c.lay_out-laid.ensures _ (omega (arith, c.if-out-needed.false))

pub returns : goal.returns
returns c =
    let made : Made (told_by c.of-rows.result) = rw c.of-rows.ensures c.requires in
    let r = c.lay_out-laid.result in
    let ends = c.lay_out-laid.ensures.ends in
    let old : List ℕ = c.args.out.now in
    let idle : c.fill.new.self ≡ replicate (cores * r.finish) 255 = c.fill.ensures.after (λ y e. e) ∙ ap (λ n. replicate n 255) (omega (arith, length-take (cores * r.finish) old, c.if-out-needed.false)) in
    let new = c.write.ensures ∙ ap (λ bytes. seated r.slot r.on_core_1 c.of-rows.result.size (bytes ++ drop (cores * r.finish) old)) idle
    ∙ plan_written (told_by c.of-rows.result) made r c.lay_out-laid.ensures old c.if-out-needed.false in
    subst (λ k. Plans k old c.write.new.out 0 r.finish) c.of-rows.ensures (passed (λ lt. omega (arith, c.if-out-needed.false, ends)) (λ i. (0, ends i, new i)))
