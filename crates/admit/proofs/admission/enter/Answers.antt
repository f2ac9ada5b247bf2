-- `admission::enter` meets its contract, from what its three calls ensure, one behind the other (`enters`). Assumes nothing.
use Rattle.entries.specs.Layout.{entry_of}
use Rattle.admit.specs.Admission.{enters}
use Rattle.admit.proofs.admission.enter.Goals as goal

pub returns-clause-evicts : goal.returns-clause-evicts
unfolding entry_of
returns-clause-evicts c = let v = c.evict_to.ensures in λ k new.
    let t = c.insert.ensures.left k new in
    let u = c.propagate_family_weight.ensures.left t.kept in
    enters _ _ _ _ _ _ _ _ _ _ _ _ _ _ _ _ (rw (c.new.ensures.0, c.new.ensures.1, c.new-2.ensures.0, c.new-2.ensures.1) at t.tables) u.tables (v.evicts u.kept)
