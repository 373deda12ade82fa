-- The geometry and the words of a page, from what a function has found of each, and what passed checks say of an area: laws. Assumes nothing.
use Rattle.std.specs.Prelude.{◌≡◌, List, Bool, true, false, not, ℕ, suc, ◌+◌, ◌-◌, ◌*◌, ◌≤◌, ◌<◌, length, take, drop, eqb, Option, Some, None}
use Rattle.std.proofs.Math.Path.{sym}
use Rattle.std.proofs.Common.{◌∙◌, arith, mul-le-mul_right, suc-mul, Fits}
use borrow.Author.Tests.{le-leb, lt-leb, not-false}
use Rattle.std.specs.Int.{w64}
use Rattle.rules.specs.declared.Area.{Area}
use Rattle.rules.specs.declared.PageSize.{PageSize}
use Rattle.rules.specs.declared.Refusal.{Refusal}
use Rattle.rules.specs.Words.{words_of, size_of}
use Rattle.rules.specs.Areas.{base, page, ready}
use Rattle.rules.specs.Refusals.{wrong_geometry, unready, ready_checks}
use Rattle.rules.specs.Laws.{size_words, Passed}
use Rattle.rules.specs.Places.{Right, right_of, base_suc, length_page, page_in}

-- ---- the geometry
pub no_pages : (a : Area) (f : List ℕ) → a.pages < 1 → true ≡ wrong_geometry a f
unfolding wrong_geometry
no_pages a f h = rw (lt-leb 1 a.pages h)

module _ (a : Area) (f : List ℕ) (l : 1 ≤ a.pages) where
  pub many_pages : 255 < a.pages → true ≡ wrong_geometry a f
  unfolding wrong_geometry
  many_pages h = rw (le-leb 1 a.pages l, lt-leb a.pages 255 h)

  module _ {s : Option PageSize} (h : a.pages ≤ 255) (e : s ≡ size_of a.words) where
    pub no_size : s ≡ None → true ≡ wrong_geometry a f
    unfolding wrong_geometry
    no_size q = let n : size_of a.words ≡ None = sym e ∙ q in rw (le-leb 1 a.pages l, le-leb a.pages 255 h, n)

    pub by_length : {z : PageSize} {m : ℕ} → s ≡ Some z → m ≡ words_of z → not (eqb (length f) ((a.pages + 1) * m)) ≡ wrong_geometry a f
    unfolding wrong_geometry
    by_length {z} {m} q d =
        let n : size_of a.words ≡ Some z = sym e ∙ q in
        let w : m ≡ a.words = d ∙ size_words a.words z n in
        rw (le-leb 1 a.pages l, le-leb a.pages 255 h, n, w)

-- so many words can be counted
pub run_fits : (n m : ℕ) → n ≤ 255 → m ≤ 1024 → Fits w64 ((n + 1) * m)
run_fits n m h l =
    let g : n + 1 ≤ 256 = omega arith in
    let k : (n + 1) * m ≤ 256 * m = mul-le-mul_right m g in
    record { fits = omega arith }

pub ruleset geometries = (no_pages, many_pages, no_size, by_length, run_fits)

-- ---- the words of a page
pub page_cut : (a : Area) (f : List ℕ) (i : ℕ) → take (i * a.words + a.words - i * a.words) (drop (i * a.words) f) ≡ page a f i
unfolding page base
page_cut a f i = let e : i * a.words + a.words - i * a.words ≡ a.words = omega arith in rw e

pub page_ends : {a : Area} {f : List ℕ} (i : ℕ) → Right a f → i ≤ a.pages → i * a.words + a.words ≤ length f
unfolding base
page_ends {a} i r h = omega (arith, page_in r i h, base_suc a i)

pub page_long : {a : Area} {f : List ℕ} (i : ℕ) → Right a f → i ≤ a.pages → length (take (i * a.words + a.words - i * a.words) (drop (i * a.words) f)) ≡ a.words
page_long {a} {f} i r h = rw (page_cut a f i) (length_page a f i (page_in r i h))

-- so far can be counted, in words and in bytes
module _ {a : Area} {f : List ℕ} (i : ℕ) (r : Right a f) (h : i ≤ a.pages) where
  near : i * a.words + a.words ≤ 262144
  near =
      let m = r.many in
      let g : suc i ≤ 256 = omega arith in
      let k : suc i * a.words ≤ 256 * a.words = mul-le-mul_right a.words g in
      let n = r.narrow in
      omega (arith, suc-mul i a.words)

  pub base_fits : Fits w64 (i * a.words)
  base_fits = record { fits = omega (arith, near) }

  pub end_fits : Fits w64 (i * a.words + a.words)
  end_fits = record { fits = omega (arith, near) }

  pub bytes_fit : Fits w64 (i * a.words * 4)
  bytes_fit = record { fits = omega (arith, near) }

pub ruleset parts = (page_cut, page_ends, page_long, base_fits, end_fits, bytes_fit)

-- a geometry that was not refused is right
pub geometry_right : {g : Bool} (a : Area) (f : List ℕ) → g ≡ wrong_geometry a f → g ≡ false → Right a f
geometry_right a f e t = right_of a f (sym e ∙ t)

-- whose area is ready
pub ready_is : (a : Area) (f : List ℕ) (cs : List (Bool × Refusal)) → Passed (ready_checks a f cs) → ready a f ≡ true
unfolding unready
ready_is a f cs p = not-false (ready a f) (rw p.1.0 at p.1.1.0)
