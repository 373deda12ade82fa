-- One page: written out as its entries and the words behind them, it walks to those entries and stops there, and every sealed or torn
-- page is so written. Assumes nothing.
use Rattle.std.specs.Prelude.{◌≡◌, Bool, ℕ, suc, zero, ◌+◌, ◌-◌, ◌*◌, ◌^◌, ◌≤◌, ◌<◌, length, get_or, take, drop, leb, ltb, eqb}
use Rattle.std.proofs.Math.Path.{refl, ap}
use Rattle.std.proofs.Common.{sym, ◌∙◌, subst, zero-le, suc-le-suc, length-append, length-take, take-append-drop, take_at}
use mathlib.Core.List.{List, [], ◌∷◌, ◌++◌, append_assoc, append-nil}
use Rattle.std.proofs.Math.Bool.{true, false, cond}
use Rattle.std.proofs.lemmas.Bool.{false≢true}
use native.Mathlib.Omega.{arith}
use Rattle.std.specs.Int.Bits.{bit_and, and_self, and_zero_r}
use Rattle.std.proofs.lemmas.Nat.{and_block}
use borrow.Author.Tests.{ltb-true, leb-true, eqb-true, lt-ltb, le-leb, eq-eqb}
use Rattle.flash.specs.Stores.{blank, Words, more}
use Rattle.rules.specs.declared.Kind.{Kind}
use Rattle.rules.specs.declared.Kind.TheVariants.{Sealed, Torn, Neither}
use Rattle.rules.specs.Words.{longest, meta0, meta1, header, handle_of, length_of, special, seal}
use Rattle.rules.specs.Walk.{Item, entry_length, codes, begins, Walked, walk_in, items, rest, stop, all_blank, end_kind, meta_right, kind_of, is_sealed}
use Rattle.rules.specs.Laws.{and_left, and_right}
use Rattle.demands.specs.Terms.{blanks, Good, Goods, no_item, good_item, written, layout}

abbrev pub item : ℕ → List ℕ → Item
item h d = record { handle = h; words = d }

-- the page with the index i of n that has the entries es, and behind them the words t
unfoldable pub image : ℕ → ℕ → List Item → List ℕ → List ℕ
image n i es t = meta0 ∷ (meta1 n i ∷ (codes es ++ t))

pub codes_written : (es : List Item) → codes es ≡ written es
unfolding header
codes_written [] = refl
codes_written (e ∷ es) = rw (codes_written es)

pub image_layout : (n i : ℕ) (es : List Item) (w m : ℕ) → image n i es (w ∷ blanks m) ≡ layout n i es w m
unfolding image layout meta1
image_layout n i es w m = rw (codes_written es)

-- ---- entries that the layout allows
pub goods_append : {es fs : List Item} → Goods es → Goods fs → Goods (es ++ fs)
goods_append no_item q = q
goods_append (good_item g gs) q = good_item g (goods_append gs q)

pub goods_left : (es fs : List Item) → Goods (es ++ fs) → Goods es
goods_left [] fs q = no_item
goods_left (e ∷ es) fs (good_item g gs) = good_item g (goods_left es fs gs)

pub goods_right : (es : List Item) {fs : List Item} → Goods (es ++ fs) → Goods fs
goods_right [] q = q
goods_right (e ∷ es) (good_item g gs) = goods_right es gs

pub goods_head : {e : Item} {es : List Item} → Goods (e ∷ es) → Good e
goods_head (good_item g gs) = g

-- its header
module _ (h l : ℕ) (k : l < 65536) where
  header_handle : handle_of (header h l) ≡ h
  unfolding header
  header_handle = omega arith

  header_length : length_of (header h l) ≡ l
  unfolding header
  header_length = omega arith

pub header_of : (w : ℕ) → header (handle_of w) (length_of w) ≡ w
unfolding header
header_of w = omega arith

-- invalidated: only bits go, and the length stays
pub bare_header : (h l : ℕ) → l < 65536 → bit_and (header h l) l ≡ l
unfolding header
bare_header h l a =
    let e : 65536 * h + l ≡ h * 2 ^ 16 + l = omega arith in
    let z : 0 * 2 ^ 16 + l ≡ l = omega arith in
    ap (λ (x : ℕ). bit_and x l) e
    ∙ ap (λ (x : ℕ). bit_and (h * 2 ^ 16 + l) x) (sym z)
    ∙ and_block 16 h 0 l l a a
    ∙ ap (λ (x : ℕ). x * 2 ^ 16 + bit_and l l) (and_zero_r h)
    ∙ ap (λ (x : ℕ). 0 * 2 ^ 16 + x) (and_self l)
    ∙ z

pub header_dead : (l : ℕ) → header 0 l ≡ l
unfolding header
header_dead l = omega arith

-- ---- what `begins` says
record Begins (w : ℕ) (ws : List ℕ) : Type 0 where
  handle : handle_of w < special
  low : 1 ≤ length_of w
  high : length_of w ≤ longest
  room : length_of w ≤ length ws

begins_true : (w : ℕ) (ws : List ℕ) → begins w ws ≡ true → Begins w ws
unfolding begins
begins_true w ws e =
    let b = and_right (ltb (handle_of w) special) _ e in
    let c = and_right (leb 1 (length_of w)) _ b in
    record {
      handle = ltb-true _ _ (and_left (ltb (handle_of w) special) _ e);
      low = leb-true _ _ (and_left (leb 1 (length_of w)) _ b);
      high = leb-true _ _ (and_left (leb (length_of w) longest) _ c);
      room = leb-true _ _ (and_right (leb (length_of w) longest) _ c);
    }

true_begins : (w : ℕ) (ws : List ℕ) → Begins w ws → begins w ws ≡ true
unfolding begins
true_begins w ws g = rw (lt-ltb _ _ g.handle, le-leb _ _ g.low, le-leb _ _ g.high, le-leb _ _ g.room)

-- ---- the walk of entries written out
-- a skip over words that are there
skip : (d ws : List ℕ) → walk_in (length d) (d ++ ws) ≡ walk_in 0 ws
skip [] ws = refl
skip (x ∷ d) ws = skip d ws

-- an entry's words, and what is found behind them
abbrev found : Item → Walked → Walked
found e r = record { items = e ∷ r.items; rest = r.rest }

walk_front : (e : Item) (ws : List ℕ) → Good e → 0 < length ws → walk_in 0 (header e.handle (entry_length e.words) ∷ (e.words ++ ws)) ≡ found e (walk_in 0 ws)
walk_front e ws g h =
    let s = g.short in
    let k : entry_length e.words < 65536 = omega arith in
    let w = header e.handle (entry_length e.words) in
    let a : handle_of w ≡ e.handle = header_handle e.handle (entry_length e.words) k in
    let b : length_of w ≡ entry_length e.words = header_length e.handle (entry_length e.words) k in
    let l = length-append e.words ws in
    let t : begins w (e.words ++ ws) ≡ true =
    true_begins w (e.words ++ ws) (record { handle = rw a g.small; low = omega arith; high = omega arith; room = omega arith }) in
    let n : length_of w - 1 ≡ length e.words = omega arith in
    rw (t, n, a, take_at e.words ws (length e.words) refl, skip e.words ws)

-- entries, and what is found behind them
abbrev found_all : List Item → Walked → Walked
found_all es r = record { items = es ++ r.items; rest = r.rest }

walk_codes : {es : List Item} → Goods es → (t : List ℕ) → 0 < length t → walk_in 0 (codes es ++ t) ≡ found_all es (walk_in 0 t)
walk_codes no_item t h = refl
walk_codes (good_item {e} {es} g gs) t h =
    let l = length-append (codes es) t in
    rw (append_assoc e.words (codes es) t) (walk_front e (codes es ++ t) g (omega arith) ∙ ap (found e) (walk_codes gs t h))

-- ---- every list of words is so written
codes_walk : (k : ℕ) (ws : List ℕ) → codes (walk_in k ws).items ++ (walk_in k ws).rest ≡ drop k ws
codes_walk zero [] = refl
codes_walk (suc k) [] = refl
codes_walk (suc k) (w ∷ ws) = codes_walk k ws
codes_walk zero (w ∷ ws) = go (begins w ws) refl (codes_walk (length_of w - 1) ws)
  where
    go : (b : Bool) → begins w ws ≡ b → codes (walk_in (length_of w - 1) ws).items ++ (walk_in (length_of w - 1) ws).rest ≡ drop (length_of w - 1) ws
        → codes (walk_in 0 (w ∷ ws)).items ++ (walk_in 0 (w ∷ ws)).rest ≡ w ∷ ws
    go false e ih = rw e
    go true e ih =
        let g = begins_true w ws e in
        let one = g.low in
        let fits = g.room in
        let l : length (take (length_of w - 1) ws) + 1 ≡ length_of w = simp length-take (omega arith) in
        rw (e, append_assoc (take (length_of w - 1) ws), ih, take-append-drop (length_of w - 1) ws, l, header_of w)

goods_walk : (k : ℕ) (ws : List ℕ) → Goods (walk_in k ws).items
goods_walk zero [] = no_item
goods_walk (suc k) [] = no_item
goods_walk (suc k) (w ∷ ws) = goods_walk k ws
goods_walk zero (w ∷ ws) = go (begins w ws) refl (goods_walk (length_of w - 1) ws)
  where
    go : (b : Bool) → begins w ws ≡ b → Goods (walk_in (length_of w - 1) ws).items → Goods (walk_in 0 (w ∷ ws)).items
    go false e ih = rw e no_item
    go true e ih =
        let g = begins_true w ws e in
        let most = g.high in
        let l : length (take (length_of w - 1) ws) ≤ 32 = simp length-take (omega arith) in
        rw e (good_item (record { small = g.handle; short = l }) ih)

pub goods_items : (p : List ℕ) → Goods (items p)
unfolding items
goods_items p = goods_walk 0 (drop 2 p)

-- ---- where the walk stops
-- a seal or a blank word, and blank words behind it
pub data End : ℕ → Kind → Type 0 where
  at_seal : End seal Sealed
  at_blank : End blank Torn

pub blank_all : (m : ℕ) → all_blank (blanks m) ≡ true
blank_all zero = refl
blank_all (suc m) = blank_all m

pub all_blank_true : (t : List ℕ) → all_blank t ≡ true → t ≡ blanks (length t)
all_blank_true [] e = refl
all_blank_true (w ∷ ws) e =
    let a = eqb-true w blank (and_left (eqb w blank) (all_blank ws) e) in
    let b = all_blank_true ws (and_right (eqb w blank) (all_blank ws) e) in
    cc

meta_image : (n i : ℕ) (es : List Item) (t : List ℕ) → meta_right n i (image n i es t) ≡ true
unfolding meta_right image
meta_image n i es t = eq-eqb (meta1 n i) (meta1 n i) refl

walk_end : {w : ℕ} {k : Kind} → End w k → (m : ℕ) → walk_in 0 (w ∷ blanks m) ≡ record { items = []; rest = w ∷ blanks m }
unfolding begins
walk_end at_seal m = refl
walk_end at_blank m = refl

kind_end : {w : ℕ} {k : Kind} → End w k → (m : ℕ) → end_kind (w ∷ blanks m) ≡ k
kind_end at_seal m = rw (blank_all m)
kind_end at_blank m = rw (blank_all m)

pub length_image : (n i : ℕ) (es : List Item) (t : List ℕ) → length (image n i es t) ≡ 2 + length (codes es) + length t
unfolding image
length_image n i es t = simp length-append (omega arith)

module _ {w : ℕ} {k : Kind} (end : End w k) (n i m : ℕ) (es : List Item) (gs : Goods es) where
  walk_image : walk_in 0 (codes es ++ (w ∷ blanks m)) ≡ record { items = es; rest = w ∷ blanks m }
  walk_image = walk_codes gs (w ∷ blanks m) (suc-le-suc zero-le) ∙ rw (walk_end end m, append-nil es)

  pub items_image : items (image n i es (w ∷ blanks m)) ≡ es
  unfolding items image
  items_image = ap (λ (r : Walked). r.items) walk_image

  rest_image : rest (image n i es (w ∷ blanks m)) ≡ w ∷ blanks m
  unfolding rest image
  rest_image = ap (λ (r : Walked). r.rest) walk_image

  pub kind_image : kind_of n i (image n i es (w ∷ blanks m)) ≡ k
  unfolding kind_of
  kind_image = rw (meta_image n i es (w ∷ blanks m), rest_image) (kind_end end m)

  pub stop_image : stop (image n i es (w ∷ blanks m)) ≡ 2 + length (codes es)
  unfolding stop
  stop_image = rw (rest_image, length_image n i es (w ∷ blanks m)) (omega arith)

-- ---- and back
end_shape : (t : List ℕ) (k : Kind) → end_kind t ≡ k → (k ≡ Neither → ⊥) → (w m : ℕ) × End w k × (t ≡ w ∷ blanks m)
end_shape [] k e h = absurd (h (sym e))
end_shape (w ∷ ws) k e h = go (all_blank ws) (eqb w seal) (eqb w blank) refl refl refl e
  where
    go : (x y z : Bool) → all_blank ws ≡ x → eqb w seal ≡ y → eqb w blank ≡ z → cond x (cond y Sealed (cond z Torn Neither)) Neither ≡ k
        → (v m : ℕ) × End v k × (◌≡◌ {A = List ℕ} (w ∷ ws) (v ∷ blanks m))
    go true true z p q r e = let a = eqb-true w seal q in let b = all_blank_true ws p in (seal, length ws, subst (End seal) e at_seal, cc)
    go true false true p q r e = let a = eqb-true w blank r in let b = all_blank_true ws p in (blank, length ws, subst (End blank) e at_blank, cc)
    go true false false p q r e = absurd (h (sym e))
    go false y z p q r e = absurd (h (sym e))

end_seal : {w : ℕ} → End w Sealed → w ≡ seal
end_seal at_seal = refl

end_blank : {w : ℕ} → End w Torn → w ≡ blank
end_blank at_blank = refl

two_words : (p : List ℕ) → 2 ≤ length p → p ≡ get_or p 0 0 ∷ (get_or p 1 0 ∷ drop 2 p)
two_words [] h = absurd (omega arith)
two_words (x ∷ []) h = absurd (omega arith)
two_words (x ∷ (y ∷ ys)) h = refl

module _ (n i : ℕ) (p : List ℕ) (l : 2 ≤ length p) where
  meta_shape : meta_right n i p ≡ true → p ≡ image n i (items p) (rest p)
  unfolding meta_right items rest image
  meta_shape e =
      let a = eqb-true (get_or p 0 0) meta0 (and_left (eqb (get_or p 0 0) meta0) (eqb (get_or p 1 0) (meta1 n i)) e) in
      let b = eqb-true (get_or p 1 0) (meta1 n i) (and_right (eqb (get_or p 0 0) meta0) (eqb (get_or p 1 0) (meta1 n i)) e) in
      let c = two_words p l in
      let d = codes_walk 0 (drop 2 p) in
      c ∙ cc

  kind_shape : (k : Kind) → kind_of n i p ≡ k → (k ≡ Neither → ⊥) → (w m : ℕ) × End w k × (p ≡ image n i (items p) (w ∷ blanks m))
  unfolding kind_of
  kind_shape k e h = go (meta_right n i p) refl e
    where
      go : (b : Bool) → meta_right n i p ≡ b → cond b (end_kind (rest p)) Neither ≡ k → (w m : ℕ) × End w k × (p ≡ image n i (items p) (w ∷ blanks m))
      go true q r = let s = end_shape (rest p) k r h in (s.0, s.1, s.2, meta_shape q ∙ ap (λ (t : List ℕ). image n i (items p) t) s.3)
      go false q r = absurd (h (sym r))

  pub sealed_shape : kind_of n i p ≡ Sealed → (m : ℕ) × (p ≡ image n i (items p) (seal ∷ blanks m))
  sealed_shape e =
      let s = kind_shape Sealed e (λ q. let z : ◌≡◌ {A = ℕ} 0 1 = cc in omega arith) in
      (s.1, s.3 ∙ ap (λ (w : ℕ). image n i (items p) (w ∷ blanks s.1)) (end_seal s.2))

  pub torn_shape : kind_of n i p ≡ Torn → (m : ℕ) × (p ≡ image n i (items p) (blank ∷ blanks m))
  torn_shape e =
      let s = kind_shape Torn e (λ q. let z : ◌≡◌ {A = ℕ} 0 1 = cc in omega arith) in
      (s.1, s.3 ∙ ap (λ (w : ℕ). image n i (items p) (w ∷ blanks s.1)) (end_blank s.2))

pub is_sealed_true : (k : Kind) → is_sealed k ≡ true → k ≡ Sealed
is_sealed_true Sealed e = refl
is_sealed_true Torn e = absurd (false≢true e)
is_sealed_true Neither e = absurd (false≢true e)

-- ---- entries more, and words in the middle
pub codes_append : (es fs : List Item) → codes (es ++ fs) ≡ codes es ++ codes fs
codes_append [] fs = refl
codes_append (e ∷ es) fs = rw (codes_append es fs, append_assoc e.words (codes es) (codes fs))

-- the words of a page before what stands behind its entries
unfoldable pub front : ℕ → ℕ → List Item → List ℕ
front n i es = meta0 ∷ (meta1 n i ∷ codes es)

pub length_front : (n i : ℕ) (es : List Item) → length (front n i es) ≡ 2 + length (codes es)
unfolding front
length_front n i es = omega arith

pub image_front : (n i : ℕ) (es : List Item) (t : List ℕ) → image n i es t ≡ front n i es ++ t
unfolding image front
image_front n i es t = refl

-- an entry in the middle
pub image_at : (n i : ℕ) (es : List Item) (e : Item) (fs : List Item) (t : List ℕ)
    → image n i (es ++ e ∷ fs) t ≡ front n i es ++ header e.handle (entry_length e.words) ∷ (e.words ++ (codes fs ++ t))
unfolding image front
image_at n i es e fs t =
    rw (codes_append es (e ∷ fs), append_assoc (codes es) (codes (e ∷ fs)) t, append_assoc e.words (codes fs) t)

pub words_image : (n i : ℕ) (es : List Item) (t : List ℕ) → Words (image n i es t) → Words (codes es ++ t)
unfolding image
words_image n i es t (more b (more c w)) = w
