-- The stores that drop all but the last live entry of a handle, from what a loop over the entries has come to: laws. A store in front of a
-- cursor changes nothing of what is ahead of it. Assumes nothing.
use Rattle.std.specs.Prelude.{◌≡◌, List, [], ◌∷◌, ◌++◌, Bool, not, ◌&&◌, ◌||◌, take, drop, eqb}
use Rattle.std.proofs.Math.Path.{refl, sym, ap}
use Rattle.std.proofs.Common.{◌∙◌, true≢false, arith, drop-drop, drop-set-lt, eq-eqb, ne_eqb, Option, Some, None, Fits}
use Rattle.std.proofs.Math.Bool.{true, false, cond}
use Prim.Native.Nat.{ℕ, suc, zero, ◌+◌, ◌-◌, ◌≤◌, ◌<◌}
use Rattle.std.proofs.Math.ListN.{length}
use Rattle.std.proofs.Math.Seq.{take-nil}
use Rattle.std.specs.Int.{w32}
use Rattle.flash.specs.declared.Power.{Power}
use Rattle.flash.specs.Stores.{Store, put, stored, made, made_first, Ran}
use Rattle.flash.specs.Laws.{le_or_lt, ran_none, ran_append, ran_length}
use Rattle.rules.specs.declared.Area.{Area}
use Rattle.rules.specs.Areas.{base, page, Entry, entries_from, entries, any_of, live_of, twice}
use Rattle.rules.specs.Lists.{bare, supersede}
use Rattle.rules.specs.Laws.{nor_left, nor_right}
use Rattle.rules.specs.Places.{Right, base_suc, right_ran}
use Rattle.pages.specs.Steps.{walk_at, entries_at}
use Rattle.entries.specs.declared.walk.Cursor.{Cursor}
use Rattle.entries.specs.declared.walk.Header.{Header}
use Rattle.entries.specs.Ahead.{onward, ahead, first_cursor, Sound, Passed, drop_cut, first_onward, first_sound}
use Rattle.entries.specs.Noting.{beside}
use Rattle.entries.specs.Repeats.{twice_in}
use Rattle.entries.specs.Sweeping.{live_twice, windowed_start, windowed_aside}

-- one store, if it is to be made
abbrev pub put_if : Bool → ℕ → ℕ → List Store
put_if t at w = cond t (put at w ∷ []) []

-- whether an entry of a handle goes, by the entries behind it: where one handle alone may be live twice, no other is looked for
abbrev pub looked_for : Option ℕ → ℕ → Bool
looked_for None h = true
looked_for (Some k) h = eqb h k

abbrev pub drops : Option ℕ → ℕ → List Entry → Bool
drops o h es = looked_for o h && any_of (live_of h) es

pub put_wanted : {p q : Power} {f g : List ℕ} {at w : ℕ} (t : Bool) → Ran (put at w ∷ []) p f q g → t ≡ true → Ran (put_if t at w) p f q g
put_wanted t x e = rw e x

pub put_unwanted : {p : Power} {f : List ℕ} (t : Bool) (at w : ℕ) → t ≡ false → Ran (put_if t at w) p f p f
put_unwanted {p} {f} t at w e = rw e (ran_none p f)

-- ---- a store in front of a place, with power or without, leaves the words from there on
put_kept : (k : ℕ) (t : Bool) (at w n : ℕ) (f : List ℕ) → at < n → drop n (made_first k (put_if t at w) f) ≡ drop n f
unfolding made_first stored
put_kept k false at w n f h = ap (λ (ss : List Store). drop n (made ss f)) (take-nil k)
put_kept zero true at w n f h = refl
put_kept (suc k) true at w n f h = ap (λ (ss : List Store). drop n (made ss (stored f at w))) (take-nil k) ∙ drop-set-lt n f at _ h

ran_kept : {p q : Power} {f g : List ℕ} (t : Bool) (at w n : ℕ) → Ran (put_if t at w) p f q g → at < n → drop n g ≡ drop n f
ran_kept {p} {f = f} t at w n x h = ap (λ (u : List ℕ). drop n u) x.words ∙ put_kept p.left t at w n f h

-- ---- what is ahead of a cursor is in the words from its place on
-- from a place on, a run is as another
record Kept (f g : List ℕ) (n : ℕ) : Type 0 where
  long : length g ≡ length f
  words : drop n g ≡ drop n f

module _ {f g : List ℕ} {n : ℕ} (k : Kept f g n) where
  behind_kept : (m : ℕ) → n ≤ m → drop m g ≡ drop m f
  behind_kept m h =
      let e : n + (m - n) ≡ m = omega arith in
      rw e at (sym (drop-drop (m - n) n g) ∙ ap (λ (u : List ℕ). drop (m - n) u) k.words ∙ drop-drop (m - n) n f)

  cut_kept : (end : ℕ) → drop n (take end g) ≡ drop n (take end f)
  cut_kept end = drop_cut n end g ∙ ap (λ (u : List ℕ). take (end - n) u) k.words ∙ sym (drop_cut n end f)

  pages_kept : (a : Area) (m i : ℕ) → n ≤ base a i → entries_from a g m i ≡ entries_from a f m i
  unfolding page
  pages_kept a zero i h = refl
  pages_kept a (suc m) i h =
      rw (behind_kept (base a i) h, pages_kept a m (suc i) (omega (arith, base_suc a i)))

module _ {a : Area} {f g : List ℕ} {c : Cursor} (s : Sound a f c) (k : Kept f g c.place) where
  sound_kept : Sound a g c
  sound_kept = let e = s.ends in record { ends = record { behind = e.behind; place = e.place; inside = rw k.long e.inside }; within = s.within }

  ahead_kept : ahead a g c ≡ ahead a f c
  unfolding onward entries_at walk_at
  ahead_kept = rw (cut_kept k c.end, pages_kept k a c.left (a.pages - c.left) (omega (arith, s.within, s.ends.place)))

-- ---- the doubles before a cursor have been dropped: whatever the stores for what is ahead lead to, those for all entries lead to. It may be
-- known that one handle alone is live twice
pub record Dropping (o : Option ℕ) (a : Area) (p₀ : Power) (f₀ : List ℕ) (c : Cursor) (p : Power) (f : List ℕ) : Type 0 where
  pub right : Right a f
  pub sound : Sound a f c
  pub alone : (k : ℕ) → o ≡ Some k → twice_in (beside k) (ahead a f c) ≡ false
  pub end : (r : Power) (h : List ℕ) → Ran (supersede (ahead a f c)) p f r h → Ran (supersede (entries a f₀)) p₀ f₀ r h

pub dropping_start : {o : Option ℕ} {a : Area} {p : Power} {f : List ℕ} {c : Cursor} → c ≡ first_cursor a → Right a f → ((k : ℕ) → o ≡ Some k → twice_in (beside k) (entries a f) ≡ false)
    → Dropping o a p f c p f
dropping_start s r n =
    let e = first_onward r in
    rw s (record { right = r; sound = first_sound r; alone = λ k i. rw e (n k i); end = λ q h x. rw e at x })

pub dropping_end : {o : Option ℕ} {a : Area} {p₀ p : Power} {f₀ f : List ℕ} {c : Cursor} → Dropping o a p₀ f₀ c p f → ahead a f c ≡ [] → Ran (supersede (entries a f₀)) p₀ f₀ p f
dropping_end {p = p} {f = f} s z = s.end p f (rw z (ran_none p f))

pub length_stored : (n : ℕ) → n < 65536 → Fits w32 n
length_stored n l = record { fits = omega arith }

module _ {o : Option ℕ} {a : Area} {p₀ p q : Power} {f₀ f g : List ℕ} {c d : Cursor} {e : Header} (s : Dropping o a p₀ f₀ c p f) (w : Sound a f d) (y : Passed a f c e d)
    (x : Ran (put_if (drops o e.handle (ahead a f d)) e.place e.length) p f q g) where
  abbrev h : ℕ
  h = e.handle

  abbrev t : Bool
  t = drops o h (ahead a f d)

  kept : Kept f g d.place
  kept = record { long = ran_length x; words = ran_kept t e.place e.length d.place x y.behind }

  same : ahead a g d ≡ ahead a f d
  same = ahead_kept w kept

  -- with each step there are fewer
  pub dropping_fewer : length (ahead a g d) < length (ahead a f c)
  dropping_fewer = rw (same, y.heads.first) (omega arith)

  its : y.heads.entry.handle ≡ h
  its = ap (λ (u : Header). u.handle) y.heads.header

  here : (k : ℕ) → o ≡ Some k → (not (eqb h k) && any_of (live_of h) (ahead a f d)) || twice_in (beside k) (ahead a f d) ≡ false
  here k i = rw its at (rw y.heads.first at (s.alone k i))

  -- a handle that is not looked for is not live behind
  looked : t ≡ any_of (live_of h) (ahead a f d)
  looked = go o refl
    where
      none_other : (i j n : Bool) → (not i && j) || n ≡ false → i && j ≡ j
      none_other true j n y = refl
      none_other false true n y = absurd (true≢false y)
      none_other false false n y = refl

      go : (u : Option ℕ) → o ≡ u → drops u h (ahead a f d) ≡ any_of (live_of h) (ahead a f d)
      go None i = refl
      go (Some k) i = none_other (eqb h k) (any_of (live_of h) (ahead a f d)) (twice_in (beside k) (ahead a f d)) (here k i)

  stores_here : supersede (ahead a f c) ≡ put_if t e.place e.length ++ supersede (ahead a f d)
  stores_here =
      let l : any_of (live_of y.heads.entry.handle) (ahead a f d) ≡ t = rw its (sym looked) in
      ap supersede y.heads.first ∙ rw l (go t)
    where
      bare_is : bare y.heads.entry ≡ put e.place e.length
      bare_is = ap (λ (u : Header). put u.place u.length) y.heads.header

      go : (b : Bool) → cond b (bare y.heads.entry ∷ supersede (ahead a f d)) (supersede (ahead a f d)) ≡ put_if b e.place e.length ++ supersede (ahead a f d)
      go true = rw bare_is
      go false = refl

  pub dropping_on : Dropping o a p₀ f₀ d q g
  dropping_on =
      record {
        right = right_ran x s.right;
        sound = sound_kept w kept;
        alone = λ k i. rw same (nor_right (not (eqb h k) && any_of (live_of h) (ahead a f d)) (twice_in (beside k) (ahead a f d)) (here k i));
        end = λ r u v. s.end r u (rw stores_here (ran_append x (rw same at v)));
      }

pub ruleset drops_each = (put_wanted, put_unwanted, dropping_start, dropping_on, dropping_fewer, dropping_end, length_stored, ran_length)

-- ---- whether a handle is looked for
pub looked_all : {o : Option ℕ} {r : Bool} (h : ℕ) (es : List Entry) → o ≡ None → r ≡ any_of (live_of h) es → r ≡ drops o h es
looked_all h es e q = rw e q

module _ {o : Option ℕ} {k : ℕ} (h : ℕ) (es : List Entry) (e : o ≡ Some k) where
  pub unlooked : (h ≡ k → ⊥) → false ≡ drops o h es
  unlooked z = rw (e, ne_eqb h k z)

  pub looked_one : {r : Bool} → h ≡ k → r ≡ any_of (live_of h) es → r ≡ drops o h es
  looked_one z q = rw (e, eq-eqb h k z) q

-- ---- no handle is live twice, and one alone
once_none : (es : List Entry) → twice es ≡ false → supersede es ≡ []
once_none [] z = refl
once_none (e ∷ es) z = rw (nor_left (any_of (live_of e.handle) es) (twice es) z) (once_none es (nor_right (any_of (live_of e.handle) es) (twice es) z))

pub none_dropped : {p : Power} (a : Area) (f : List ℕ) → false ≡ twice_in (beside 0) (entries a f) → Ran (supersede (entries a f)) p f p f
none_dropped {p} a f e = rw (once_none (entries a f) (sym (live_twice (entries a f)) ∙ sym e)) (ran_none p f)

pub ruleset dropped = (looked_all, unlooked, looked_one, none_dropped, windowed_start, windowed_aside)
