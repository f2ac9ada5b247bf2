use Rattle.console.specs.Laws.{peers-words}
use native.Mathlib.Omega.{arith}
use Rattle.console.proofs.query.ask.Goals as goal

pub charges-requires : goal.charges-requires
charges-requires c = (peers-words c.args.peers.now _ c.requires.holds.store.fits.records c.requires.holds.store.fits.used, omega (arith, c.requires.holds.store.fits.used, c.requires.answer_len_bound))
