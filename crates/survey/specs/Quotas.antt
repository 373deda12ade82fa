-- The size of an area's pages, and whether an entry is more than the area's quota leaves, from what a function has found: laws. Assumes nothing.
use Rattle.std.specs.Prelude.{◌≡◌, true, ℕ, ◌+◌, ◌-◌, ◌*◌, ◌≤◌, ◌<◌, ltb, Option, Some, None}
use Rattle.std.proofs.Common.{sym, ap, ◌∙◌, ⊎_elim, arith, mul-le-mul_right, le-ltb, lt-ltb, Fits}
use Rattle.std.proofs.lemmas.Bool.{false≢true}
use Rattle.std.specs.Int.{w64}
use Rattle.flash.specs.Laws.{le_or_lt}
use Rattle.rules.specs.declared.Area.{Area}
use Rattle.rules.specs.declared.PageSize.{PageSize}
use Rattle.rules.specs.Words.{words_of, size_of, quota}
use Rattle.rules.specs.Refusals.{is_listed, area_quota}
use Rattle.rules.specs.Laws.{words_size, size_words}

-- ---- the size of listed pages
module _ {s : Option PageSize} (P : ℕ) (e : s ≡ size_of P) where
  pub size_found : {z : PageSize} → s ≡ Some z → words_of z ≡ P
  size_found {z} q = size_words P z (sym e ∙ q)

  pub never_none : {n : ℕ} → s ≡ None → is_listed (size_of P) ≡ true → n ≡ P
  never_none q l = absurd (false≢true (sym (ap is_listed (sym e ∙ q)) ∙ l))

pub ruleset sizes = (size_found, never_none)

-- no two sizes have as many words
pub size_settles : (r s : PageSize) {P : ℕ} → words_of r ≡ P → words_of s ≡ P → r ≡ s
size_settles r s e d = let z : Some r ≡ Some s = sym (words_size r) ∙ ap size_of (e ∙ sym d) ∙ words_size s in cc

-- ---- the area's quota
quota_small : (z : PageSize) → quota (words_of z) ≤ 1024
quota_small PageSize.Small = omega arith
quota_small PageSize.Medium = omega arith
quota_small PageSize.Large = omega arith

module _ {m : ℕ} (a : Area) (z : PageSize) (e : m ≡ quota (words_of z)) where
  pub quota_fits : a.pages ≤ 255 → Fits w64 (a.pages * m)
  quota_fits h =
      let k : a.pages * m ≤ 255 * m = mul-le-mul_right m h in
      record { fits = omega (arith, quota_small z) }

  module _ (w : words_of z ≡ a.words) where
    is_quota : a.pages * m ≡ area_quota a
    is_quota = rw (e, w)

    pub full_alone : (l n : ℕ) → a.pages * m < n → true ≡ ltb (area_quota a) (l + n)
    full_alone l n h = sym (lt-ltb (area_quota a) (l + n) (omega (arith, is_quota)))

    pub full_beside : (l n : ℕ) → n ≤ a.pages * m → ltb (a.pages * m - n) l ≡ ltb (area_quota a) (l + n)
    full_beside l n h =
        ⊎_elim (λ (x : l ≤ a.pages * m - n). le-ltb (a.pages * m - n) l x ∙ sym (le-ltb (area_quota a) (l + n) (omega (arith, is_quota))))
        (λ (x : a.pages * m - n < l). lt-ltb (a.pages * m - n) l x ∙ sym (lt-ltb (area_quota a) (l + n) (omega (arith, is_quota))))
        (le_or_lt l (a.pages * m - n))

pub ruleset quotas = (quota_fits, full_alone, full_beside)
