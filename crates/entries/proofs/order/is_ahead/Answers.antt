-- `order::is_ahead` meets its contract: it tests as `ahead` does. Assumes nothing.
use Rattle.std.proofs.Common.{sym, ◌∙◌}
use Rattle.words.specs.Ids.{id_of, less-is}
use Rattle.entries.specs.Cells.{entry_in, in-weight, in-id}
use Rattle.entries.specs.Ranks.{ahead-far, ahead-tie}
use Rattle.entries.proofs.order.is_ahead.Goals as goal

pub returns-then-w-weight : goal.returns-then-w-weight
returns-then-w-weight c =
    let a = c.args in
    ahead-far (entry_in a.s.now a.i) a.weight (id_of a.id) _ (c.get-w.ensures ∙ sym (in-weight a.s.now a.i)) c.if-w-weight.true

pub returns : goal.returns
returns c =
    let a = c.args in
    c.lt.ensures
    ∙ less-is (id_of c.id_in.result) (id_of a.id)
    ∙ ahead-tie (entry_in a.s.now a.i) a.weight (id_of a.id) _ _ (c.get-w.ensures ∙ sym (in-weight a.s.now a.i)) c.if-w-weight.false (c.id_in.ensures ∙ sym (in-id a.s.now a.i))
