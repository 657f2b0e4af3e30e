use mathlib.Core.Path.{refl}
use mathlib.Core.Logic.{inl, inr}
use Rattle.refusal.specs.Table.{refused}
use Rattle.planner.proofs.Outcome.{says_refused}
use Rattle.planner.proofs.Growing.{size_is, order_held, order_reads}
use Rattle.planner.proofs.Posed.{order_kept, order_ready, order_fits, order_none}
use Rattle.planner.proofs.requests.add_order.Goals as goal

pub returns-in_err-unheld : goal.returns-in_err-unheld
returns-in_err-unheld c =
    says_refused _ _ _ c.from_residual.ensures.1 (λ L t. refused _ _ (inl (inl (rw (c.from-size.ensures, size_is L _ t) at c.in_err-unheld.ensures.0 0))) refl)

pub returns-in_err-closes : goal.returns-in_err-closes
returns-in_err-closes c =
    let h = rw c.from-size.ensures at c.in_ok-unheld.ensures.1 refl in
    says_refused _ _ _ c.from_residual-in_err-closes.ensures.1 (λ L t.
    refused _ _ (inl (inr (order_held L _ t _ _ h.0 h.1, c.in_err-closes.ensures L.orders 0 (order_reads L _ t _ _ h.0 h.1)))) refl)

pub returns-then-has : goal.returns-then-has
returns-then-has c = λ L t. order_kept L _ _ t _ _ _ c.from-size.ensures (c.in_ok-unheld.ensures.1 refl) c.in_ok-closes.ensures c.if-has.ensures

pub settle-requires : goal.settle-requires
settle-requires c = order_ready c.requires.0 _ _ c.requires.1 _ _ _ c.from-size.ensures (c.in_ok-unheld.ensures.1 refl) c.in_ok-closes.ensures _ c.with-more.ensures

pub returns-in_err-settle : goal.returns-in_err-settle
returns-in_err-settle c =
    let x = c.in_err-settle.ensures in
    says_refused _ _ _ c.from_residual-in_err-settle.ensures.1 (λ L t.
    rw x.0 (order_none L _ _ t _ _ _ c.from-size.ensures (c.in_ok-unheld.ensures.1 refl) c.in_ok-closes.ensures _ c.with-more.ensures _ x.1 x.2))

pub returns : goal.returns
returns c = λ L t. order_fits L _ _ t _ _ _ c.from-size.ensures (c.in_ok-unheld.ensures.1 refl) c.in_ok-closes.ensures _ c.with-more.ensures _ _ c.link.ensures c.in_ok-settle.ensures
