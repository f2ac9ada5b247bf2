-- `gunthyd_find_entry` meets its contract: a table that is too short has nobody, else the place that was found. Assumes nothing.
use Rattle.host.specs.Host.{place_number, rank-short, rank-found}
use Rattle.entries.specs.Layout.{ok-room}
use mathlib.Core.Path.{sym, ap, ◌∙◌}
use native.Mathlib.Omega.{arith}
use Rattle.host.proofs.gunthyd_find_entry.Goals as goal

pub returns-then-entries_room-pooled-clause-value_2 : goal.returns-then-entries_room-pooled-clause-value_2
returns-then-entries_room-pooled-clause-value_2 c = λ _. rank-short _ _ _ (omega arith)

pub new-requires : goal.new-requires
new-requires c = ok-room _ _ (omega arith)

pub returns-in-Some-clause-value_2 : goal.returns-in-Some-clause-value_2
returns-in-Some-clause-value_2 c = let q = c.in-Some.is in
    λ k. ap place_number (sym q) ∙ rank-found _ _ _ (omega arith) _ ((rw (c.new.ensures.0, c.new.ensures.1) at c.find-place.ensures.value) k)

pub returns-in-None-clause-value_2 : goal.returns-in-None-clause-value_2
returns-in-None-clause-value_2 c = λ k. ap place_number (sym c.in-None.is) ∙ rank-found _ _ _ (omega arith) _ ((rw (c.new.ensures.0, c.new.ensures.1) at c.find-place.ensures.value) k)
