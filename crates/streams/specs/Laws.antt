-- Laws of streams: what was written or read one behind the other is one text, and an input whose bytes are known was read whole where none is left.
use Rattle.std.specs.Prelude.{ℕ, ◌≤◌, ◌≡◌, refl, List, [], ◌++◌, length, None, Some}
use Rattle.std.proofs.Common.{sym, ap, ◌∙◌, append_assoc, append-nil, arith, length-append}
use Rattle.std.specs.Io.KnownBytes.{Appends, Consumes, IsAtEnd}
use Rattle.std.specs.declared.option.Option.{Option}
use Rattle.streams.specs.Streams.{Stand, Written, Taken}

grows-none : (k : Option (List ℕ)) → Appends k k []
grows-none None = tt
grows-none (Some x) = sym (append-nil x)

grows-then : (a b c : Option (List ℕ)) (t u : List ℕ) → Appends a b t → Appends b c u → Appends a c (t ++ u)
grows-then None b c t u p q = tt
grows-then (Some x) None c t u p q = absurd p
grows-then (Some x) (Some y) None t u p q = absurd q
grows-then (Some x) (Some y) (Some z) t u p q = q ∙ ap (λ (w : List ℕ). w ++ u) p ∙ append_assoc x t u

pub written-none : {o : Stand} → Written o o []
written-none {o} = record { fails = λ e. e; grows = λ e. grows-none o.known }

pub written-then : {o o' o'' : Stand} {t u : List ℕ} → Written o o' t → Written o' o'' u → Written o o'' (t ++ u)
written-then {o} {o'} {o''} {t} {u} p q =
    record { fails = λ e. p.fails (q.fails e); grows = λ e. grows-then o.known o'.known o''.known t u (p.grows (q.fails e)) (q.grows e) }

takes-none : (k : Option (List ℕ)) → Consumes k k []
takes-none None = tt
takes-none (Some x) = refl

takes-then : (a b c : Option (List ℕ)) (t u : List ℕ) → Consumes a b t → Consumes b c u → Consumes a c (t ++ u)
takes-then None b c t u p q = tt
takes-then (Some x) None c t u p q = absurd p
takes-then (Some x) (Some y) None t u p q = absurd q
takes-then (Some x) (Some y) (Some z) t u p q = p ∙ ap (λ (w : List ℕ). t ++ w) q ∙ sym (append_assoc t u z)

pub taken-none : {i : Stand} → Taken i i []
taken-none {i} = record { fails = λ e. e; takes = takes-none i.known }

pub taken-then : {i i' i'' : Stand} {t u : List ℕ} → Taken i i' t → Taken i' i'' u → Taken i i'' (t ++ u)
taken-then {i} {i'} {i''} {t} {u} p q = record { fails = λ e. p.fails (q.fails e); takes = takes-then i.known i'.known i''.known t u p.takes q.takes }

-- of an input of the bytes f
module _ (f : List ℕ) where
  front : (a b : Option (List ℕ)) (t : List ℕ) → a ≡ Some f → Consumes a b t → length t ≤ length f
  front None b t e c = absurd (cc)
  front (Some x) None t e c = absurd c
  front (Some x) (Some y) t e c = let q : x ≡ f = cc in omega (arith, ap length c, ap length q, length-append t y)

  whole : (a b : Option (List ℕ)) (t : List ℕ) → a ≡ Some f → Consumes a b t → IsAtEnd b → t ≡ f
  whole None b t e c z = absurd (cc)
  whole (Some x) None t e c z = absurd c
  whole (Some x) (Some y) t e c z = let q : x ≡ f = cc in sym (append-nil t) ∙ ap (λ (w : List ℕ). t ++ w) (sym z) ∙ sym c ∙ q

  pub taken-front : {i i' : Stand} {t : List ℕ} → i.known ≡ Some f → Taken i i' t → length t ≤ length f
  taken-front {i} {i'} {t} e p = front i.known i'.known t e p.takes

  pub taken-whole : {i i' : Stand} {t : List ℕ} → i.known ≡ Some f → Taken i i' t → IsAtEnd i'.known → t ≡ f
  taken-whole {i} {i'} {t} e p z = whole i.known i'.known t e p.takes z
