-- The pool of a moment agrees with the ledger: what the theorem carries from call to call.
use Rattle.std.specs.Prelude.{◌^◌, ◌≤◌, ◌≡◌, true, ◌&&◌, [], ◌∷◌}
use Rattle.std.proofs.Common.{sym, ◌∙◌, subst}
use Rattle.pool_types.specs.declared.MempoolConfig.{MempoolConfig}
use Rattle.pool_types.specs.Outcomes.{Outcome, Reading, reading_of}
use Rattle.store.specs.World.{World}
use Rattle.cleanup.specs.Passes.{PassNow, PassResult}
use Rattle.ledger.specs.Charges.{Fair}
use Rattle.ledger.proofs.Same.{SameBook}
use Rattle.ledger.proofs.SameCharges.{SameCharges}
use Rattle.ledger.specs.Ledger.{Ledger}
use Rattle.ledger.specs.Run.{Moment, world_at, KeptAt, pass_at, Becomes}

-- the settings of an accepted start, with a peer limit of at least 1
pub record Bounds (g : MempoolConfig) : Type 0 where
  pub block : g.cost_per_block ≤ 2 ^ 63
  pub peer : g.cost_per_peer_per_block ≤ 2 ^ 63
  pub one : 1 ≤ g.cost_per_peer_per_block

-- a world and a ledger
pub record SameWorld (g : MempoolConfig) (w : World) (l : Ledger) : Type 0 where
  pub book : SameBook w.tables l.book
  pub charges : SameCharges w.sum w.peers l.charged
  pub fair : Fair g.cost_per_block g.cost_per_peer_per_block l.charged

-- while a candidate is out, it is "the id that next gave last"
abbrev pub Recalls : PassNow → Ledger → Type 0
Recalls p l = (p.is_open && p.out) ≡ true → l.given ≡ p.candidate ∷ []

pub record Agrees (g : MempoolConfig) (m : Moment) (l : Ledger) : Type 0 where
  pub kept : KeptAt m
  pub config : m.state.config ≡ g
  pub world : SameWorld g (world_at m) l
  pub given : Recalls (pass_at m) l

-- ---- a step

-- what a call comes to, and a ledger
pub record Tallies (g : MempoolConfig) (r : PassResult) (l : Ledger) : Type 0 where
  pub world : SameWorld g r.world l
  pub given : Recalls r.pass l

-- a step keeps the agreement where what the call comes to tallies with the ledger that heard so
pub became-agrees : (g : MempoolConfig) (m k : Moment) (l : Ledger) (o : Outcome) (r : PassResult) (hears : Reading → Ledger)
    → Agrees g m l → Becomes m k o r → Tallies g r (hears (reading_of r.outcome)) → Agrees g k (hears (reading_of o))
became-agrees g m k l o r hears s c t =
    let p = c s.kept in
    let j : Ledger = hears (reading_of r.outcome) in
    rw p.outcome
    (record {
      kept = p.kept;
      config = p.config ∙ s.config;
      world = subst (λ (w : World). SameWorld g w j) (sym p.world) t.world;
      given = subst (λ (x : PassNow). Recalls x j) (sym p.pass) t.given;
    })
