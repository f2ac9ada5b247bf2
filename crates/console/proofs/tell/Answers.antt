use mathlib.Core.Path.{◌∙◌}
use Rattle.std.proofs.Common.{refl}
use Rattle.std.specs.Prelude.{false}
use Rattle.console.specs.After.{after_same}
use Rattle.console.specs.Calls.{lacks_pool}
use Rattle.console.specs.Desk.{as-long, line-alters, line-asks, alter-lacks, ask-lacks}
use Rattle.console.specs.Laws.{after-as, line-called, called-started, called-unread}
use Rattle.console.proofs.tell.Goals as goal

pub returns-in-Start : goal.returns-in-Start
unfolding lacks_pool
returns-in-Start c =
    record {
      after = after-as (line-called _ _ _ _ _ _ _ _ _ _ _ {t = false} (rw c.in-Start.is refl) refl ∙ called-started _ _ _ _ _ _ _ _ _ _ _ _ c.in-Start.is) c.start_on_desk.ensures.after;
      same_lengths = as-long c.start_on_desk.ensures.same_words;
    }

pub returns-in-Unreadable-clause-after : goal.returns-in-Unreadable-clause-after
unfolding lacks_pool
returns-in-Unreadable-clause-after c = after-as (line-called _ _ _ _ _ _ _ _ _ _ _ {t = false} (rw c.in-Unreadable.is refl) refl ∙ called-unread _ _ _ _ _ _ _ _ _ _ _ c.in-Unreadable.is) (after_same _ _ _ _ _ _ _ _ _ _ c.requires.holds c.unread.ensures)

pub returns-in-Some-clause-after : goal.returns-in-Some-clause-after
returns-in-Some-clause-after c = after-as (line-alters c.args.desk.now _ _ _ _ _ c.in-Some.is c.in-Alter.is) c.alter.ensures.after

pub returns-in-None-clause-after : goal.returns-in-None-clause-after
returns-in-None-clause-after c = after-as (alter-lacks c.args.desk.now _ _ _ _ _ c.in-None.is c.in-Alter.is) (after_same _ _ _ _ _ _ _ _ _ _ c.requires.holds c.no_pool.ensures)

pub returns-in-Some-held-clause-after : goal.returns-in-Some-held-clause-after
returns-in-Some-held-clause-after c = after-as (line-asks c.args.desk.now _ _ _ _ _ c.in-Some-held.is c.in-Ask.is) (after_same _ _ _ _ _ _ _ _ _ _ c.requires.holds c.ask_on_desk.ensures)

pub returns-in-None-held-clause-after : goal.returns-in-None-held-clause-after
returns-in-None-held-clause-after c = after-as (ask-lacks c.args.desk.now _ _ _ _ _ c.in-None-held.is c.in-Ask.is) (after_same _ _ _ _ _ _ _ _ _ _ c.requires.holds c.no_pool-in-None-held.ensures)
