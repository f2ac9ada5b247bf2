-- `chain::find_slot` meets its contract. The loop's invariant: no slot in use from `next` on has the id (`Seeks`). The measure is `next`, since links go down. Assumes nothing.
use Rattle.std.proofs.Common.{sym, ap, ◌∙◌, arith, eqb-true}
use Rattle.std.proofs.lemmas.Bool.{eqb-false}
use Rattle.words.specs.Ids.{id_of}
use Rattle.entries.specs.Splice.{link-less}
use Rattle.entries.specs.Cells.{AllWords}
use Rattle.words.specs.Chains.{name_of}
use Rattle.entries.specs.Index.{seeks-first, seeks-hit, seeks-next, seeks-end, no_slot}
use Rattle.entries.proofs.chain.find_slot.Goals as goal

pub returns-then-u-eq0 : goal.returns-then-u-eq0
returns-then-u-eq0 c = no_slot c.args.s.now c.args.u (id_of c.args.id) c.if-u-eq0.true

pub loop-next-init : goal.loop-next-init
unfolding AllWords
loop-next-init c =
    let a = c.args in
    seeks-first a.s.now a.u a.id (λ i. omega (arith, c.type_inv.s i)) (omega arith) c.requires _ _ (omega (arith, c.if-u-eq0.false)) c.home_of.ensures.0 c.head-next.ensures

pub returns-then-eq : goal.returns-then-eq
unfolding AllWords
returns-then-eq c =
    let a = c.args in
    seeks-hit a.s.now a.u a.id (λ i. omega (arith, c.type_inv.s i)) (omega arith) c.requires _ _ c.loop-next.invariant (ap name_of c.in-Some.is) (sym c.id_in.ensures ∙ eqb-true _ _ (sym c.eq.ensures ∙ c.if-eq.true))

pub loop-next-smaller : goal.loop-next-smaller
loop-next-smaller c = link-less _ _ _ _ c.link-next.ensures (ap name_of c.in-Some.is)

pub loop-next-preserved : goal.loop-next-preserved
unfolding AllWords
loop-next-preserved c =
    let a = c.args in
    seeks-next a.s.now a.u a.id (λ i. omega (arith, c.type_inv.s i)) (omega arith) c.requires _ _ c.loop-next.invariant (ap name_of c.in-Some.is) _ (λ e. eqb-false _ _ (sym c.eq.ensures ∙ c.if-eq.false) (c.id_in.ensures ∙ e)) c.link-next.ensures

pub returns : goal.returns
unfolding AllWords
returns c =
    let a = c.args in
    seeks-end a.s.now a.u a.id (λ i. omega (arith, c.type_inv.s i)) (omega arith) c.requires _ c.loop-next.invariant (ap name_of c.in_default.is)
