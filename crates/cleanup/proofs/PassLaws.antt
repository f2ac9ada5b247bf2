-- Laws of next that rest on its search: what was found is the next candidate, and with nothing found the pass has ended.
use Rattle.std.specs.Prelude.{None, Option, Some}
use Rattle.std.specs.Prelude.{ℕ, ◌≡◌, Bool, leb}
use Rattle.std.proofs.Math.Path.{refl, ap}
use Rattle.std.proofs.Common.{sym, ◌∙◌}
use Rattle.std.proofs.Math.Bool.{true, false, not}
use mathlib.Core.List.{List, [], ◌∷◌}
use Rattle.words.specs.Lists.{pick, no}
use Rattle.pool_types.specs.declared.Mempool.{Mempool}
use Rattle.pool_types.specs.Outcomes.{Outcome}
use Rattle.peers.specs.declared.PeerRecord.{PeerRecord}
use Rattle.entries.specs.Layout.{entry_at, entries_of}
use Rattle.store.specs.World.{World, world_of}
use Rattle.store.specs.Fits.{Kept}
use Rattle.cleanup.specs.Passes.{pass_of, nexted, sought, offered, first_due}
use Rattle.cleanup.specs.Post.{PassPost, PassOnly}
use Rattle.cleanup.specs.Search.{ids_at, Sought}
use Rattle.cleanup.specs.Laws.{post-as, only-post}

module _ (st : Mempool) where
  -- none is: the search decides
  module _ (e : List ℕ) (h : not st.pass.open ≡ false) (i : st.pass.out ≡ false) {r : Option ℕ} (s : Sought e st.counts.pooled st.config.cleanup_interval (pass_of st.pass) r) where
    searched : (b k : List ℕ) (ys : List PeerRecord) (ids : List ℕ) → ids_at e r ≡ ids → nexted st.config (world_of e b k ys st) (pass_of st.pass) ≡ offered ids (world_of e b k ys st) (pass_of st.pass)
    unfolding nexted sought
    searched b k ys ids q =
        no _ _ _ h ∙ no _ _ _ i
        ∙ either (leb st.pass.limit st.pass.spent) (first_due st.config.cleanup_interval (pass_of st.pass) (entries_of e st.counts.pooled))
        ∙ ap (λ ks. offered ks (world_of e b k ys st) (pass_of st.pass)) (sym s.ids ∙ q)
      where
        either : (t : Bool) (ks : List ℕ)
            → pick t (offered [] (world_of e b k ys st) (pass_of st.pass)) (offered ks (world_of e b k ys st) (pass_of st.pass)) ≡ offered (pick t [] ks) (world_of e b k ys st) (pass_of st.pass)
        either true ks = refl
        either false ks = refl

    pub next-found : (j x : ℕ) → r ≡ Some j → x ≡ (entry_at e j).id → {m : Mempool} {o : Outcome} → ((w : World) → PassOnly st m o (offered (x ∷ []) w (pass_of st.pass)))
        → (b k : List ℕ) (ys : List PeerRecord) → Kept e b k ys st → PassPost st m o e b k ys (nexted st.config (world_of e b k ys st) (pass_of st.pass))
    unfolding offered
    next-found j x q y g b k ys f = post-as (searched b k ys (x ∷ []) (rw (q, y))) (only-post e b k ys f refl (g (world_of e b k ys st)))

    pub next-ended : r ≡ None → {m : Mempool} {o : Outcome} → ((w : World) → PassOnly st m o (offered [] w (pass_of st.pass)))
        → (b k : List ℕ) (ys : List PeerRecord) → Kept e b k ys st → PassPost st m o e b k ys (nexted st.config (world_of e b k ys st) (pass_of st.pass))
    unfolding offered
    next-ended q g b k ys f = post-as (searched b k ys [] (rw q)) (only-post e b k ys f refl (g (world_of e b k ys st)))
