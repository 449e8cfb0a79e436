-- The levels of a row of pixels, one column after another: those of valid pixels counted, each kept in its place. Assumes nothing.
use Rattle.std.proofs.Common.{◌≡◌, ℕ, suc, ◌+◌, ◌<◌, ◌≤◌, List, ◌∷◌, map, length, get_or, set, drop, sym, ap, ◌∙◌, arith, ext_get_or}
use lib.ListN.{length-map}
use Rattle.std.proofs.Math.Seq.{drop-cons}
use Rattle.std.proofs.lemmas.List.{drop_all}
use lib.Ieee.{Float, nan}
use Rattle.types.specs.declared.WindowFloats.{WindowFloats}
use Rattle.raster.specs.declared.band.Band.{Band}
use Rattle.spec.specs.Lists.{added, stored}
use Rattle.spec.specs.Pixels.{Pixel, off, on, pixel, pixels, valid_of}
use Rattle.spec.specs.Grey.{normal_pixel}
use Rattle.spec.specs.Value.{normalized}
use Rattle.spec.specs.Clahe.{level_of}
use Rattle.clahe.specs.Band.{normal_in, normal_pixels, levels, level_at}
use Rattle.clahe.proofs.Rows.{pixel-on, pixel-off}
use Rattle.lists.proofs.Places.{map_at}
use Rattle.lists.proofs.Zip.{zip-at, zip_length}
use Rattle.clahe.proofs.Cells.{kept_or_stored}

module _ (w : WindowFloats) (band : Band) where
  abbrev marks : List ℕ
  marks = band.valid_mask.now

  abbrev db : List Float
  db = band.db.now

  abbrev px : List Pixel
  px = normal_pixels w band

  pub pixels_length : length px ≡ length db
  unfolding pixels
  pixels_length = length-map (pixels marks db) (normal_in w) ∙ zip_length pixel marks db (sym band.alike) ∙ band.alike

  pub pixel_at : (i : ℕ) → i < length db → get_or px i off ≡ normal_in w (pixel (get_or marks i 0) (get_or db i nan))
  unfolding pixels
  pixel_at i h =
      map_at (normal_in w) off off (pixels marks db) i (omega (arith, zip_length pixel marks db (sym band.alike), band.alike))
      ∙ ap (normal_in w) (zip-at pixel 0 nan off marks db i (omega (arith, band.alike)) h)

  -- a valid pixel, and an invalid one
  pixel_on : (i : ℕ) → i < length db → (get_or marks i 0 ≡ 0 → ⊥) → get_or px i off ≡ on (normalized w.low w.high w.range (get_or db i nan))
  unfolding normal_pixel
  pixel_on i h m = pixel_at i h ∙ ap (normal_in w) (pixel-on (get_or marks i 0) (get_or db i nan) m)

  pixel_off : (i : ℕ) → i < length db → get_or marks i 0 ≡ 0 → get_or px i off ≡ off
  unfolding normal_pixel
  pixel_off i h m = pixel_at i h ∙ ap (normal_in w) (pixel-off (get_or marks i 0) (get_or db i nan) m)

  -- ---- counted: the levels from a column on, added to counts

  abbrev pub Left : ℕ → List ℕ → List ℕ
  Left c h = stored h (levels (drop c px))

  pub left_end : (c : ℕ) (h : List ℕ) → length db ≤ c → Left c h ≡ h
  unfolding stored valid_of
  left_end c h l = ap (λ (ps : List Pixel). stored h (levels ps)) (drop_all c px (omega (arith, pixels_length)))

  next : (c : ℕ) → c < length db → drop c px ≡ get_or px c off ∷ drop (c + 1) px
  next c l = drop-cons px c off (omega (arith, pixels_length)) ∙ ap (λ (n : ℕ). get_or px c off ∷ drop n px) {x = suc c} {y = c + 1} (omega arith)

  pub left_on : (c b : ℕ) (h : List ℕ) → c < length db → (get_or marks c 0 ≡ 0 → ⊥) → b ≡ level_of (normalized w.low w.high w.range (get_or db c nan)) → Left c h ≡ Left (c + 1) (added b h)
  unfolding stored valid_of
  left_on c b h l m e =
      ap (λ (ps : List Pixel). stored h (levels ps)) (next c l ∙ ap (λ (p : Pixel). p ∷ drop (c + 1) px) (pixel_on c l m))
      ∙ ap (λ (n : ℕ). stored (added n h) (levels (drop (c + 1) px))) (sym e)

  pub left_off : (c : ℕ) (h : List ℕ) → c < length db → get_or marks c 0 ≡ 0 → Left c h ≡ Left (c + 1) h
  unfolding stored valid_of
  left_off c h l m = ap (λ (ps : List Pixel). stored h (levels ps)) (next c l ∙ ap (λ (p : Pixel). p ∷ drop (c + 1) px) (pixel_off c l m))

  -- ---- kept: the columns before c have their levels

  module _ {A : Type 0} (of : ℕ → A) where
    abbrev pub Kept : ℕ → List A → Type 0
    Kept c out = (k : ℕ) → k < c → get_or out k (of 0) ≡ of (level_at (get_or px k off))

    module _ (c : ℕ) (out : List A) (l : c < length db) (h : c < length out) (all : Kept c out) (n : A) where
      pub kept_on : (b : ℕ) → (get_or marks c 0 ≡ 0 → ⊥) → b ≡ level_of (normalized w.low w.high w.range (get_or db c nan)) → n ≡ of b → Kept (c + 1) (set out c n)
      unfolding level_at
      kept_on b m e f =
          kept_or_stored (λ k n. n ≡ of (level_at (get_or px k off))) (of 0) out c n h all (f ∙ ap of e ∙ ap (λ (p : Pixel). of (level_at p)) (sym (pixel_on c l m)))

      pub kept_off : get_or marks c 0 ≡ 0 → n ≡ of 0 → Kept (c + 1) (set out c n)
      unfolding level_at
      kept_off m f = kept_or_stored (λ k n. n ≡ of (level_at (get_or px k off))) (of 0) out c n h all (f ∙ ap (λ (p : Pixel). of (level_at p)) (sym (pixel_off c l m)))

    pub kept_all : (c : ℕ) (out : List A) → length out ≡ length db → length db ≤ c → Kept c out → out ≡ map of (map level_at px)
    kept_all c out e h all =
        ext_get_or (of 0) out (map of (map level_at px)) (e ∙ sym (length-map (map level_at px) of ∙ length-map px level_at ∙ pixels_length))
        (λ k l. let s = pixels_length in
        all k (omega arith) ∙ sym (map_at of 0 (of 0) (map level_at px) k (omega (arith, length-map px level_at)) ∙ ap of (map_at level_at off 0 px k (omega arith))))
