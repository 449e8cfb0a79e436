-- A pass that calls a step at each valid pixel: one turn of its loop, and what it comes to for a step that is a function. Assumes nothing.
use mathlib.Core.Path.{◌≡◌, refl, sym, ap, subst, ◌∙◌}
use mathlib.Core.Bool.{Bool, true, false, cond}
use mathlib.Core.List.{List, [], ◌∷◌}
use Prim.Native.Nat.{ℕ, suc, ◌+◌, ◌≤◌, ◌<◌, ◌^◌}
use native.Mathlib.Numerals.{add-one}
use native.Mathlib.Omega.{arith}
use lib.ListN.{length, get_or, drop}
use lib.Ieee.{Float, nan}
use Rattle.std.specs.Prelude.{Option, Some, None}
use Rattle.types.specs.declared.Moments.{Moments}
use Rattle.spec.specs.Lists.{any}
use Rattle.spec.specs.Moments.{no_moments, with_value, moments_from}
use Rattle.spec.specs.Pixels.{Pixel, off, on, pixels, valid_of}
use Rattle.spec.specs.Refusals.{decibel_refused, decibels_refused}
use Rattle.spec.specs.Strongest.{is_new_max, strongest_from, strongest}
use Rattle.raster.proofs.Bands.{next_off, next_on, drop_end, pixels-length}
use Rattle.raster.proofs.Passes.{any_here, any_not_here, any_none}
use Rattle.histogram.specs.Gathered.{IsCallableAlong, LeadsTo, Gathers}
use Rattle.histogram.specs.Passes.{passed, placed_pass}

-- ---- one turn

bad_off : decibel_refused off ≡ false
unfolding decibel_refused
bad_off = refl

-- at place i of the band: what the calls before it led to is s, and no value before it is refused
pub record Along {S : Type 0} (pre : S → Float → ℕ → Type 0) (post : S → Float → ℕ → S → Type 0) (start : S) (m : List ℕ) (d : List Float) (s : S) (i : ℕ) : Type 0 where
  pub good : decibels_refused (pixels m d) ≡ any decibel_refused (drop i (pixels m d))
  pub callable : IsCallableAlong pre post s i (drop i (pixels m d))
  pub leads : (t : S) → LeadsTo post s i (drop i (pixels m d)) t → LeadsTo post start 0 (pixels m d) t

module _ {S : Type 0} {pre : S → Float → ℕ → Type 0} {post : S → Float → ℕ → S → Type 0} {start : S} {m : List ℕ} {d : List Float} where
  pub begin : IsCallableAlong pre post start 0 (pixels m d) → Along pre post start m d start 0
  unfolding decibels_refused
  begin c = record { good = refl; callable = c; leads = λ t h. h }

  module _ {s : S} {i : ℕ} (a : Along pre post start m d s i) where
    pub finish : length d ≤ i → (decibels_refused (pixels m d) ≡ false) × LeadsTo post start 0 (pixels m d) s
    unfolding LeadsTo
    finish h =
        let e = drop_end m d i h in
        (a.good ∙ ap (any decibel_refused) e ∙ any_none decibel_refused, a.leads s (subst (λ (ps : List Pixel). LeadsTo post s i ps s) (sym e) refl))

    module _ (l : length m ≡ length d) (k : i < length d) where
      here : i < length m
      here = omega arith

      pub skip : get_or m i 0 ≡ 0 → Along pre post start m d s (i + 1)
      unfolding IsCallableAlong LeadsTo
      skip e =
          let n = next_off m d i here k e in
          record {
            good = a.good ∙ ap (any decibel_refused) n ∙ any_not_here decibel_refused off (drop (i + 1) (pixels m d)) bad_off;
            callable = subst (λ (j : ℕ). IsCallableAlong pre post s j (drop (i + 1) (pixels m d))) (sym (add-one i)) (subst (IsCallableAlong pre post s i) n a.callable);
            leads = λ t h. a.leads t (subst (λ (ps : List Pixel). LeadsTo post s i ps t) (sym n) (subst (λ (j : ℕ). LeadsTo post s j (drop (i + 1) (pixels m d)) t) (add-one i) h));
          }

      module _ (n : get_or m i 0 ≡ 0 → ⊥) where
        pub may_call : pre s (get_or d i nan) i
        unfolding IsCallableAlong
        may_call = (subst (IsCallableAlong pre post s i) (next_on m d i here k n) a.callable).0

        -- by the test t of the value
        module _ {t : Bool} (u : t ≡ decibel_refused (on (get_or d i nan))) where
          pub bad : t ≡ true → decibels_refused (pixels m d) ≡ true
          bad e = a.good ∙ ap (any decibel_refused) (next_on m d i here k n) ∙ any_here decibel_refused (on (get_or d i nan)) (drop (i + 1) (pixels m d)) (sym u ∙ e)

          pub take : {s' : S} → t ≡ false → post s (get_or d i nan) i s' → Along pre post start m d s' (i + 1)
          unfolding IsCallableAlong LeadsTo
          take {s'} e p =
              let x = next_on m d i here k n in
              let ps = drop (i + 1) (pixels m d) in
              record {
                good = a.good ∙ ap (any decibel_refused) x ∙ any_not_here decibel_refused (on (get_or d i nan)) ps (sym u ∙ e);
                callable = subst (λ (j : ℕ). IsCallableAlong pre post s' j ps) (sym (add-one i)) ((subst (IsCallableAlong pre post s i) x a.callable).1 s' p);
                leads = λ r h. a.leads r (subst (λ (q : List Pixel). LeadsTo post s i q r) (sym x) (s', p, subst (λ (j : ℕ). LeadsTo post s' j ps r) (add-one i) h));
              }

-- ---- where the step may be called

-- along every pixel, if it counts its calls
along_counting : {S : Type 0} (pre : S → Float → ℕ → Type 0) (post : S → Float → ℕ → S → Type 0) (count : S → ℕ) →
    ((s : S) (v : Float) (i : ℕ) → count s + 1 < 2 ^ 32 → pre s v i) → ((s : S) (v : Float) (i : ℕ) (t : S) → post s v i t → count t ≡ count s + 1) →
    (s : S) (i : ℕ) (px : List Pixel) → count s + length px < 2 ^ 32 → IsCallableAlong pre post s i px
unfolding IsCallableAlong
along_counting pre post count may counts s i [] h = tt
along_counting pre post count may counts s i (off ∷ px) h = along_counting pre post count may counts s (suc i) px (omega arith)
along_counting pre post count may counts s i (on v ∷ px) h =
    (may s v i (omega arith), λ t p. along_counting pre post count may counts t (suc i) px (omega (arith, counts s v i t p)))

-- along a band, from a state that has counted nothing
pub callable_counting : {S : Type 0} (pre : S → Float → ℕ → Type 0) (post : S → Float → ℕ → S → Type 0) (count : S → ℕ) →
    ((s : S) (v : Float) (i : ℕ) → count s + 1 < 2 ^ 32 → pre s v i) → ((s : S) (v : Float) (i : ℕ) (t : S) → post s v i t → count t ≡ count s + 1) →
    (s : S) (m : List ℕ) (d : List Float) → count s ≡ 0 → length m ≡ length d → length d < 2 ^ 32 → IsCallableAlong pre post s 0 (pixels m d)
callable_counting pre post count may counts s m d e l h = along_counting pre post count may counts s 0 (pixels m d) (omega (arith, pixels-length m d l))

pub none_counted : (s : Moments) → s ≡ no_moments → s.count ≡ 0
unfolding no_moments
none_counted s e = ap (λ (t : Moments). t.count) e

-- ---- what a pass comes to whose step is a function

-- the function f, and g, what f makes of the pixels from a place on
module _ {S : Type 0} (post : S → Float → ℕ → S → Type 0) (f : S → Float → ℕ → S) (g : S → ℕ → List Pixel → S)
    (at_end : (s : S) (i : ℕ) → g s i [] ≡ s)
    (at_off : (s : S) (i : ℕ) (px : List Pixel) → g s i (off ∷ px) ≡ g s (suc i) px)
    (at_on : (s : S) (i : ℕ) (v : Float) (px : List Pixel) → g s i (on v ∷ px) ≡ g (f s v i) (suc i) px)
    (is : (s : S) (v : Float) (i : ℕ) (t : S) → post s v i t → t ≡ f s v i) where
  leads_is : (s : S) (i : ℕ) (px : List Pixel) (t : S) → LeadsTo post s i px t → t ≡ g s i px
  unfolding LeadsTo
  leads_is s i [] t h = sym (at_end s i ∙ h)
  leads_is s i (off ∷ px) t h = leads_is s (suc i) px t h ∙ sym (at_off s i px)
  leads_is s i (on v ∷ px) t h = leads_is h.0 (suc i) px t h.2 ∙ ap (λ (u : S). g u (suc i) px) (is s v i h.0 h.1) ∙ sym (at_on s i v px)

  pass_is : (s : S) (px : List Pixel) (r : Option S) → Gathers post s px r → r ≡ passed px (g s 0 px)
  unfolding passed
  pass_is s px None h = rw h
  pass_is s px (Some t) h = rw h.0 (ap Some (leads_is s 0 px t h.1))

-- moments by a fold g of the values, whose step is f
pub values_is : (f : Moments → Float → Moments) (g : Moments → List Float → Moments) → ((m : Moments) → g m [] ≡ m) → ((m : Moments) (v : Float) (vs : List Float) → g m (v ∷ vs) ≡ g (f m v) vs) →
    (post : Moments → Float → ℕ → Moments → Type 0) → ((s : Moments) (v : Float) (i : ℕ) (t : Moments) → post s v i t → t ≡ f s v) →
    (s : Moments) → s ≡ no_moments → (px : List Pixel) (r : Option Moments) → Gathers post s px r → r ≡ passed px (g no_moments (valid_of px))
unfolding valid_of
values_is f g at_end at_on post is s e px r h =
    pass_is post (λ m v i. f m v) (λ m i ps. g m (valid_of ps)) (λ m i. at_end m) (λ m i ps. refl) (λ m i v ps. at_on m v (valid_of ps)) is s px r h
    ∙ ap (λ (m : Moments). passed px (g m (valid_of px))) e

-- the moments and the place of the first maximum
pub placed_pass_is : (post : Moments × ℕ → Float → ℕ → Moments × ℕ → Type 0) →
    ((s : Moments × ℕ) (v : Float) (i : ℕ) (t : Moments × ℕ) → post s v i t → t ≡ (with_value s.0 v, cond (is_new_max s.0 v) i s.1)) →
    (s : Moments) → s ≡ no_moments → (px : List Pixel) (r : Option (Moments × ℕ)) → Gathers post (s, 0) px r → r ≡ placed_pass px
unfolding placed_pass strongest moments_from strongest_from valid_of
placed_pass_is post is s e px r h =
    pass_is post (λ m v i. (with_value m.0 v, cond (is_new_max m.0 v) i m.1)) (λ m i ps. (moments_from m.0 (valid_of ps), strongest_from i m.0 m.1 ps)) (λ m i. refl) (λ m i ps. refl)
    (λ m i v ps. refl) is (s, 0) px r h
    ∙ ap (λ (m : Moments). passed px (moments_from m (valid_of px), strongest_from 0 m 0 px)) e
