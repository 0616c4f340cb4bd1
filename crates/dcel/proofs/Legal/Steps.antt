-- The two steps of making a map legal, for edges listed in any way: an edge that is right is taken off, and a wrong one is flipped with the four sides of its faces put on.
use Rattle.std.proofs.Common.{◌≡◌, ℕ, ◌<◌, false, ◌≢◌, ◌⊎◌, sym, refl, ap, ◌∙◌, subst, inl, inr}
use Rattle.std.proofs.lemmas.Bool.{cases_eq}
use Rattle.exact.specs.Plane.{Point}
use Rattle.dcel.specs.Map.{Map, twin}
use Rattle.dcel.specs.Mesh.{Sound, Mesh}
use Rattle.dcel.specs.Surgery.{flip_patch}
use Rattle.dcel.specs.Geometry.{Geometric, wrong, AtRest}
use Rattle.dcel.specs.Volume.{volume}
use Rattle.dcel.specs.Legal.{EdgeListed, Ready, flip}
use Rattle.dcel.proofs.Fits.{IsPatched, is_patched, Relinks, Fits}
use Rattle.dcel.proofs.Twins.{twin_twin, twin_apart}
use Rattle.dcel.proofs.Surgeries.{Surgery, surgery_mesh}
use Rattle.dcel.proofs.EdgeFlip.{flip_surgery}
use Rattle.dcel.proofs.Legal.Corners.{wrong_twin}
use Rattle.dcel.proofs.Legal.Keeping.{listed_twin, ready_keep}
use Rattle.dcel.proofs.Legal.WrongEdge.{WrongEdge, flippable, flip_geometric, flip_right_now}
use Rattle.dcel.proofs.Legal.FlipVolume.{volume_falls}

pub nothing_listed : (pos : ℕ → Point) (m : Map) → Ready pos m (λ x. ⊥) → AtRest pos m
nothing_listed pos m R e h z z' = R e h z z' (λ k. elim k [ inl b ↦ b | inr b ↦ b ])

pub rest_ready : (pos : ℕ → Point) (m : Map) → AtRest pos m → (Listed : ℕ → Type 0) → Ready pos m Listed
rest_ready pos m rest Listed e h z z' f = rest e h z z'

-- all but e that was listed is so
abbrev pub AllBut : (ℕ → Type 0) → ℕ → (ℕ → Type 0) → Type 0
AllBut Before e After = (x : ℕ) → x ≢ e → x ≢ twin e → Before x → EdgeListed After x

pub take_off : (pos : ℕ → Point) (m : Map) → ((v : ℕ) → (pos v).w ≡ 1) → (Before After : ℕ → Type 0) (e : ℕ) → AllBut Before e After → (m.face e ≢ 0 → m.face (twin e) ≢ 0 → wrong pos m e ≡ false) →
    Ready pos m Before → Ready pos m After
take_off pos m whole Before After e less ok R x h z z' f = elim (cases_eq x e) [
  | inl q ↦ subst (λ y. wrong pos m y ≡ false) (sym q) (ok (λ r. z (ap m.face q ∙ r)) (λ r. z' (ap (λ y. m.face (twin y)) q ∙ r)))
  | inr p ↦ elim (cases_eq x (twin e)) [ inl q ↦ at_twin q | inr q ↦ R x h z z' (off p q) ]
]
  where
    at_twin : x ≡ twin e → wrong pos m x ≡ false
    at_twin q =
        let back : twin x ≡ e = ap twin q ∙ twin_twin e in
        subst (λ y. wrong pos m y ≡ false) (sym q) (wrong_twin pos m whole e ∙ ok (λ r. z' (ap m.face back ∙ r)) (λ r. z (ap m.face q ∙ r)))

    off : x ≢ e → x ≢ twin e → EdgeListed Before x → ⊥
    off p q (inl k) = f (less x p q k)
    off p q (inr k) = f (listed_twin After x (less (twin x) (λ r. q (sym (twin_twin x) ∙ ap twin r)) (twin_apart x e p) k))

module _ (pos : ℕ → Point) (m : Map) (S : Sound m) (G : Geometric pos m) (e : ℕ) (bad : WrongEdge pos m e) where
  -- the four sides are listed
  pub record SidesListed (Listed : ℕ → Type 0) : Type 0 where
    pub next_near : EdgeListed Listed (m.next e)
    pub prev_near : EdgeListed Listed (m.prev e)
    pub next_far : EdgeListed Listed (m.next (twin e))
    pub prev_far : EdgeListed Listed (m.prev (twin e))

  pub flip_ready : (n : Map) → IsPatched m n (flip_patch m e) → Relinks m (flip_patch m e) → Fits m n (flip_patch m e) → (Before After : ℕ → Type 0) → AllBut Before e After → SidesListed After → Ready pos m Before → Ready pos n After
  flip_ready n D relinks w Before After less sides R =
      take_off pos n G.whole WithE After e dropped (λ _ _. flip_right_now pos m S G e bad n D relinks w)
      (ready_keep m n S (flip_patch m e) D relinks w pos Before WithE more (λ _. inl (inr refl), (λ _. on sides.prev_near, (λ _. on sides.next_far, (λ _. inr (inr (twin_twin e)), (λ _. on sides.prev_far, (λ _. on sides.next_near, tt)))))) R)
    where
      WithE : ℕ → Type 0
      WithE x = After x ⊎ (x ≡ e)

      on : {x : ℕ} → EdgeListed After x → EdgeListed WithE x
      on (inl k) = inl (inl k)
      on (inr k) = inr (inl k)

      more : (x : ℕ) → Before x → EdgeListed WithE x
      more x k = elim (cases_eq x e) [
        | inl q ↦ inl (inr q)
        | inr p ↦ elim (cases_eq x (twin e)) [ inl q ↦ inr (inr (ap twin q ∙ twin_twin e)) | inr q ↦ on (less x p q k) ]
      ]

      dropped : AllBut WithE e After
      dropped x p q (inl k) = inl k
      dropped x p q (inr k) = absurd (p k)

-- ---- the flipped map
pub record Flipped (pos : ℕ → Point) (m : Map) (e : ℕ) (n : Map) : Type 1 where
  pub mesh : Mesh n
  pub geometric : Geometric pos n
  pub lower : volume pos n < volume pos m
  pub ready : (Before After : ℕ → Type 0) → AllBut Before e After → EdgeListed After (m.next e) → EdgeListed After (m.prev e) → EdgeListed After (m.next (twin e)) → EdgeListed After (m.prev (twin e)) →
      Ready pos m Before → Ready pos n After

pub flipped : (pos : ℕ → Point) (m : Map) → Mesh m → Geometric pos m → (e : ℕ) → WrongEdge pos m e → Flipped pos m e (flip m e)
flipped pos m M G e bad =
    let S = M.sound in
    let K : Surgery m (flip_patch m e) = flip_surgery m M e (flippable pos m S G e bad) in
    let D : IsPatched m (flip m e) (flip_patch m e) = is_patched m (flip_patch m e) K.distinct in
    let w : Fits m (flip m e) (flip_patch m e) = K.fits (flip m e) D in
    record {
      mesh = surgery_mesh m (flip_patch m e) M K;
      geometric = flip_geometric pos m S G e bad (flip m e) D K.relinks w;
      lower = volume_falls pos m S G e bad (flip m e) D K.relinks w;
      ready = λ B A less a b c d. flip_ready pos m S G e bad (flip m e) D K.relinks w B A less (record { next_near = a; prev_near = b; next_far = c; prev_far = d });
    }
