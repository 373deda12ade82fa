-- Recovery's step (a), and the whole of a recovery: cut anywhere and made anew, it ends in the very same flash, and that is a ready
-- area. Assumes nothing.
use Rattle.std.specs.Prelude.{◌≡◌, ◌⊎◌, ◌≢◌, Bool, false, ◌&&◌, ◌||◌, ℕ, suc, zero, ◌+◌, ◌-◌, ◌≤◌, ◌<◌, get_or, length, drop, Option, Some, None}
use Rattle.std.proofs.Math.Path.{refl, ap, sym, subst}
use Rattle.std.proofs.Common.{◌∙◌, inl, inr, true≢false, zero-le, arith, le_refl}
use Rattle.std.proofs.Math.Logic.{⊎_elim}
use mathlib.Core.List.{List, [], ◌∷◌, ◌++◌, append_assoc}
use Rattle.std.proofs.Math.Bool.{or-true, true, not, and_assoc}
use Rattle.std.proofs.lemmas.Bool.{false≢true}
use Rattle.std.proofs.lemmas.List.{get_or-replicate, length-replicate, take-append-le}
use Rattle.std.proofs.Math.ListN.{take, length-append}
use Rattle.std.proofs.Math.Seq.{take_at}
use Rattle.std.proofs.Math.Dec.{eqb}
use borrow.Author.Tests.{not-true, not-false, eq-eqb, ne_eqb}
use Rattle.flash.specs.Stores.{blank, Words, none, more, Store, apply, made, made_first, each}
use Rattle.flash.specs.Laws.{made_append, le_or_lt, first_none, first_all}
use Rattle.rules.specs.declared.Area.{Area}
use Rattle.rules.specs.declared.Kind.{Kind}
use Rattle.rules.specs.declared.Kind.TheVariants.{Torn, Neither, Sealed}
use Rattle.rules.specs.declared.Recovery.{Recovery}
use Rattle.rules.specs.declared.Recovery.TheVariants.{Free, Unfinished, Committed, Damage}
use Rattle.rules.specs.Words.{meta0, meta1, seal}
use Rattle.rules.specs.Walk.{codes, items, stop, kind_of, is_sealed, is_sound}
use Rattle.rules.specs.Areas.{R, base, page, kind, every, recovery, is_free, is_damage, names, entries, twice, find, sound_or_named, sealed_at, damaged, ready}
use Rattle.rules.specs.Lists.{erase, copy_to, finish, mend, drop_doubles, recover_list}
use Rattle.rules.specs.Laws.{and_left, and_right, nor_left, nor_right}
use Rattle.rules.specs.Places.{page_in, length_page}
use Rattle.demands.specs.Terms.{Fair, fair_end, Map, recovered, last_live, kept_of, kept_items, kept, blanks, PageIs, sealed_page, torn_page, RIs, open_page, committed_page}
use Rattle.demands.specs.Stages.{after, after_then, fair_append, Resumes, then_resumes, peels_resumes, peels_ends, peels_same, peels_fair}
use Rattle.demands.specs.Pages.{image_layout, torn_shape, at_blank, kind_image, image, length_image, goods_items, at_seal, stop_image, sealed_shape, words_image}
use Rattle.demands.specs.Runs.{shape_of, copied, part, meta_low, Usable, same_or_not, words_append, words_left, words_page, Only, only_self, only_as, only_trans, only_same, Turns, turns_none, turns_as, turns_then, turns_wipe, every_true, true_every}
use Rattle.demands.specs.Entries.{supersede_none, once_last}
use Rattle.demands.specs.Layout.{laid_same, from_laid}
use Rattle.demands.specs.Settled.{committed_r, unfinished_word, open_r, closed_r, given_made, free_blank, Mended, Settled, Stands, stands_settled, mended_free, mended_sound, ready_settled}
use Rattle.demands.specs.Mending.{own_items, settled_kept, mend_and_drop, later_peels, later_ready, settled_mends}

-- ---- an undamaged area
pub record Undamaged (a : Area) (f : List ℕ) : Type 0 where
  pub given : Usable a f
  pub sound : damaged a f ≡ false

undamaged_pages : {a : Area} {f : List ℕ} → Undamaged a f → (i : ℕ) → i < a.pages → names (recovery a f) i || is_sound (kind a f i) ≡ true
unfolding damaged
undamaged_pages {a} {f} u i h =
    every_true (sound_or_named a f) a.pages 0
    (not-false (every (sound_or_named a f) a.pages 0) (nor_right (is_damage (recovery a f)) _ u.sound)) i zero-le (omega arith)

undamaged_r : (a : Area) (f : List ℕ) → Undamaged a f → is_damage (recovery a f) ≡ false
unfolding damaged
undamaged_r a f v = nor_left (is_damage (recovery a f)) _ v.sound

pub undamaged_by : (a : Area) (f : List ℕ) → is_damage (recovery a f) ≡ false → ((i : ℕ) → i < a.pages → names (recovery a f) i || is_sound (kind a f i) ≡ true) → damaged a f ≡ false
unfolding damaged
undamaged_by a f d h = rw (d, true_every (sound_or_named a f) a.pages 0 (λ i lo hi. h i (omega arith)))

pub mended_undamaged : {a : Area} {j : ℕ} {f : List ℕ} → Mended a j f → Undamaged a f
mended_undamaged m = record { given = m.given; sound = mended_sound m }

finish_rests : {a : Area} {j : ℕ} {f : List ℕ} → Mended a j f → finish a f ≡ []
finish_rests m = rw (mended_free m)

-- R made blank, and the pages sound
blank_mended : {a : Area} {f g : List ℕ} → Usable a g → Only a f g a.pages (blanks a.words) → ((i : ℕ) → i < a.pages → is_sound (kind a f i) ≡ true) → Mended a 0 g
blank_mended v o s = record { given = v; spare = o.here; sound = λ i h. rw (o.there i (λ q. omega arith)) (s i h); done = λ i h l. absurd (omega arith) }

-- page i has become what R was, R is blank, and the rest is as it was
pub record Restored (a : Area) (f : List ℕ) (i : ℕ) (g : List ℕ) : Type 0 where
  pub long : length g ≡ length f
  pub here : page a g i ≡ page a f (R a)
  pub spare : page a g (R a) ≡ blanks a.words
  pub there : (j : ℕ) → i ≢ j → R a ≢ j → page a g j ≡ page a f j

-- step (a) on a flash: its stores are fair, it leaves R blank, and cut anywhere it is made anew to the same end
record Finished (a : Area) (f : List ℕ) : Type 0 where
  fair : Fair a (finish a f) f
  ends : Mended a 0 (after (finish a) f)
  cut : (k : ℕ) → Undamaged a (made_first k (finish a f) f) × (after (finish a) (made_first k (finish a f) f) ≡ after (finish a) f)

-- what is cut when all is made
cut_whole : (a : Area) (f : List ℕ) → Mended a 0 (after (finish a) f) → (k : ℕ) → length (finish a f) ≤ k
    → Undamaged a (made_first k (finish a f) f) × (after (finish a) (made_first k (finish a f) f) ≡ after (finish a) f)
cut_whole a f m k h =
    let e : made_first k (finish a f) f ≡ after (finish a) f = first_all k (finish a f) f h in
    rw e (mended_undamaged m, ap (λ (u : List Store). made u (after (finish a) f)) (finish_rests m))

-- and when nothing is
cut_none : {a : Area} {f : List ℕ} → Undamaged a f
    → Undamaged a (made_first 0 (finish a f) f) × (after (finish a) (made_first 0 (finish a f) f) ≡ after (finish a) f)
cut_none {a} {f} u = rw (first_none (finish a f) f) (u, refl)

module _ (a : Area) (f : List ℕ) (u : Undamaged a f) where
  fits : (j : ℕ) → j ≤ a.pages → base a (suc j) ≤ length f
  fits j h = page_in (shape_of u.given) j h

  free_finished : recovery a f ≡ Free → Finished a f
  free_finished e =
      let b : page a f a.pages ≡ blanks a.words = free_blank a.pages (page a f a.pages) e ∙ ap blanks (length_page a f a.pages (fits a.pages (omega arith))) in
      let m : Mended a 0 f = blank_mended u.given (only_as (only_self a f a.pages) b) (λ i h. rw e at (undamaged_pages u i h)) in
      let r = finish_rests m in
      let n : Mended a 0 (after (finish a) f) = rw r m in
      record { fair = rw r fair_end; ends = n; cut = λ k. cut_whole a f n k (rw r zero-le) }

  unfinished_finished : recovery a f ≡ Unfinished → Finished a f
  unfinished_finished e = record { fair = rw l o.0; ends = n; cut = go }
    where
      l : finish a f ≡ erase a (R a) ∷ []
      l = rw e

      o : Fair a (erase a (R a) ∷ []) f × Only a f (made (erase a (R a) ∷ []) f) (R a) (blanks a.words)
      o = (turns_wipe a (R a) (page a f (R a)) (le_refl (R a))).on f (fits a.pages (omega arith)) refl

      n : Mended a 0 (after (finish a) f)
      n = rw l (blank_mended (given_made (erase a (R a) ∷ []) u.given) o.1 (λ i h. rw e at (undamaged_pages u i h)))

      go : (k : ℕ) → Undamaged a (made_first k (finish a f) f) × (after (finish a) (made_first k (finish a f) f) ≡ after (finish a) f)
      go zero = cut_none u
      go (suc k) = cut_whole a f n (suc k) (rw l (omega arith))

  -- R committed for page i
  module _ (i : ℕ) (e : recovery a f ≡ Committed i) where
    abbrev r : List ℕ
    r = page a f (R a)

    below : i < a.pages
    below = (committed_r a.pages i r e).0

    inside : i ≤ R a
    inside = let h = below in omega arith

    shape : (m : ℕ) × (r ≡ image a.pages i (items r) (seal ∷ blanks m))
    shape =
        let w = (shape_of u.given).wide in
        let l = length_page a f a.pages (fits a.pages (omega arith)) in
        sealed_shape a.pages i r (omega arith) (committed_r a.pages i r e).1

    abbrev ws : List ℕ
    ws = codes (items r) ++ seal ∷ []

    size : a.words ≡ 2 + (length ws + shape.0)
    size =
        let l = sym (length_page a f a.pages (fits a.pages (omega arith))) ∙ ap length shape.1 ∙ length_image a.pages i (items r) (seal ∷ blanks shape.0) in
        let b = length-replicate shape.0 blank in
        let c = length-append (codes (items r)) (seal ∷ []) in
        omega arith

    words_r : Words ws
    words_r =
        let v = words_image a.pages i (items r) (seal ∷ blanks shape.0) (subst Words shape.1 (words_page a f (R a) u.given.words)) in
        words_append (words_left (codes (items r)) (seal ∷ blanks shape.0) v) (more (omega arith) none)

    low : meta1 a.pages i ≤ blank
    low = let l = meta_low a.pages i below (shape_of u.given).many in omega arith

    -- R's words from word 2 up to and with the seal
    held : take (stop r - 1) (drop 2 r) ≡ ws
    unfolding image
    held =
        let st = ap stop shape.1 ∙ stop_image at_seal a.pages i shape.0 (items r) (goods_items r) in
        let c = length-append (codes (items r)) (seal ∷ []) in
        ap (λ (x : List ℕ). take (stop r - 1) (drop 2 x)) shape.1
        ∙ ap (λ (x : List ℕ). take (stop r - 1) x) (sym (append_assoc (codes (items r)) (seal ∷ []) (blanks shape.0)))
        ∙ take_at ws (blanks shape.0) (stop r - 1) (omega arith)

    abbrev back : List Store
    back = erase a i ∷ copy_to a i i ws

    list_is : finish a f ≡ back ++ erase a (R a) ∷ []
    list_is = rw (e, held)

    abbrev full : List ℕ
    full = meta0 ∷ (meta1 a.pages i ∷ (ws ++ blanks shape.0))

    full_r : full ≡ r
    unfolding image
    full_r = ap (λ (x : List ℕ). meta0 ∷ (meta1 a.pages i ∷ x)) (append_assoc (codes (items r)) (seal ∷ []) (blanks shape.0)) ∙ sym shape.1

    turned : Turns a i back (page a f i) r
    turned = turns_as refl full_r (turns_then (turns_wipe a i (page a f i) inside) (copied a i i ws shape.0 low words_r size))

    -- any part of it
    partly : (k : ℕ) → (y : List ℕ) × Turns a i (take k back) (page a f i) y
    partly zero = (page a f i, turns_none a i (page a f i))
    partly (suc k) = let p = part a i i ws shape.0 low words_r size k in (p.page, turns_then (turns_wipe a i (page a f i) inside) p.turns)

    -- a flash that differs in page i alone: as undamaged, and finished to the same end
    module _ (g : List ℕ) (v : Usable a g) (y : List ℕ) (o : Only a f g i y) where
      same_r : page a g (R a) ≡ r
      same_r = let h = below in o.there (R a) (λ q. omega arith)

      g_undamaged : Undamaged a g
      g_undamaged = record { given = v; sound = undamaged_by a g (rw (same_r, e)) pages }
        where
          pages : (l : ℕ) → l < a.pages → names (recovery a g) l || is_sound (kind a g l) ≡ true
          pages l h = rw (same_r, e) (⊎_elim (λ q. rw (eq-eqb l i (sym q))) (λ n. rw (o.there l n) (rw e at (undamaged_pages u l h))) (same_or_not i l))

      g_list : finish a g ≡ finish a f
      g_list = let c : recovery a g ≡ Committed i = rw same_r e in rw (c, e, same_r)

      erased : apply (erase a i) g ≡ apply (erase a i) f
      erased =
          let h = below in
          let l = fits i (omega arith) in
          let p = ((turns_wipe a i (page a f i) inside).on f l refl).1 in
          let q = ((turns_wipe a i (page a g i) inside).on g (rw o.long l) refl).1 in
          only_same (shape_of u.given) (only_trans o q) p

      g_again : after (finish a) g ≡ after (finish a) f
      g_again =
          ap (λ (x : List Store). made x g) (g_list ∙ list_is)
          ∙ ap (λ (x : List ℕ). made (copy_to a i i ws ++ erase a (R a) ∷ []) x) erased
          ∙ ap (λ (x : List Store). made x f) (sym list_is)

    -- the copy, and R erased
    abbrev copy : List ℕ
    copy = made back f

    first : Fair a back f × Only a f copy i r
    first = let h = below in turned.on f (fits i (omega arith)) refl

    second : Fair a (erase a (R a) ∷ []) copy × Only a copy (apply (erase a (R a)) copy) (R a) (blanks a.words)
    second = (turns_wipe a (R a) (page a copy (R a)) (le_refl (R a))).on copy (rw first.1.long (fits a.pages (omega arith))) refl

    whole : after (finish a) f ≡ apply (erase a (R a)) copy
    whole = ap (λ (x : List Store). made x f) list_is ∙ made_append back (erase a (R a) ∷ []) f

    pub restored : Restored a f i (after (finish a) f)
    restored =
        let h = below in
        rw whole (record {
          long = second.1.long ∙ first.1.long;
          here = second.1.there i (λ q. omega arith) ∙ first.1.here;
          spare = second.1.here;
          there = λ j n q. second.1.there j q ∙ first.1.there j n;
        })

    committed_finished : Finished a f
    unfolding made_first
    committed_finished = record { fair = rw list_is (fair_append first.0 second.0); ends = ends; cut = cut }
      where
        sound : (l : ℕ) → l < a.pages → is_sound (kind a copy l) ≡ true
        sound l h =
            ⊎_elim (λ q. subst (λ (x : ℕ). is_sound (kind a copy x) ≡ true) q (rw (first.1.here, (committed_r a.pages i r e).1)))
            (λ n. rw (first.1.there l n) (other n (rw e at (undamaged_pages u l h)))) (same_or_not i l)
          where
            other : i ≢ l → eqb l i || is_sound (kind a f l) ≡ true → is_sound (kind a f l) ≡ true
            other n q = let z = ne_eqb l i (λ c. n (sym c)) in rw z at q

        ends : Mended a 0 (after (finish a) f)
        ends =
            let v = given_made (finish a f) u.given in
            rw whole (blank_mended (rw whole at v) second.1 sound)

        cut : (k : ℕ) → Undamaged a (made_first k (finish a f) f) × (after (finish a) (made_first k (finish a f) f) ≡ after (finish a) f)
        cut k = ⊎_elim some (λ (q : length back < k). cut_whole a f ends k (rw (list_is, length-append back (erase a (R a) ∷ [])) (omega arith))) (le_or_lt k (length back))
          where
            some : k ≤ length back → Undamaged a (made_first k (finish a f) f) × (after (finish a) (made_first k (finish a f) f) ≡ after (finish a) f)
            some q =
                let h = below in
                let p = partly k in
                let o = (p.1.on f (fits i (omega arith)) refl).1 in
                let t : made_first k (finish a f) f ≡ made (take k back) f = ap (λ (x : List Store). made (take k x) f) list_is ∙ ap (λ (x : List Store). made x f) (take-append-le k back (erase a (R a) ∷ []) q) in
                let v = given_made (take k back) u.given in
                rw t (g_undamaged (made (take k back) f) v p.0 o, g_again (made (take k back) f) v p.0 o)

  finished : Finished a f
  unfolding damaged
  finished = go (recovery a f) refl
    where
      go : (s : Recovery) → recovery a f ≡ s → Finished a f
      go Free e = free_finished e
      go Unfinished e = unfinished_finished e
      go (Committed i) e = committed_finished i e
      go Damage e = absurd (true≢false (rw e at u.sound))

-- Recovered, the area stands with one map or with another.
pub record Safe (a : Area) (m : Map) (n : ℕ) (m' : Map) (n' : ℕ) (g : List ℕ) : Type 0 where
  pub undamaged : Undamaged a g
  pub ends : Stands a m n (recovered a g) ⊎ Stands a m' n' (recovered a g)

-- ---- the whole
module _ (a : Area) where
  pub finish_resumes : Resumes (Undamaged a) (finish a)
  finish_resumes = record { keeps = λ f u k. ((finished a f u).cut k).0; again = λ f u k. ((finished a f u).cut k).1 }

  pub finish_fair : (f : List ℕ) → Undamaged a f → Fair a (finish a f) f
  finish_fair f u = (finished a f u).fair

  pub recover_resumes : Resumes (Undamaged a) (recover_list a)
  recover_resumes = then_resumes finish_resumes (peels_resumes (later_peels a)) (λ f u. (finished a f u).ends) (λ f m. mended_undamaged m) (λ f m. finish_rests m)

  pub recover_fair : (f : List ℕ) → Undamaged a f → Fair a (recover_list a f) f
  recover_fair f u = fair_append (finish_fair f u) (peels_fair (later_peels a) (after (finish a) f) (finished a f u).ends)

  pub recover_ready : (f : List ℕ) → Undamaged a f → ready a (recovered a f) ≡ true
  recover_ready f u =
      let g = after (finish a) f in
      let p = peels_ends (later_peels a) (after (finish a) f) (finished a f u).ends in
      rw (after_then (finish a) (mend_and_drop a) f) (later_ready a (after (mend_and_drop a) g) p.0 p.1)

  -- what is left to do where R is blank
  pub recover_mended : {j : ℕ} (f : List ℕ) → Mended a j f → recover_list a f ≡ mend_and_drop a f
  recover_mended f m = rw (finish_rests m)

  pub recover_settled : (f : List ℕ) → Settled a f → recover_list a f ≡ drop_doubles a f
  recover_settled f s = recover_mended f s ∙ rw (settled_mends a f s).1

  -- with R free and all pages sealed, doubles alone are left to drop
  sealed_rests : (f : List ℕ) (n i : ℕ) → every (sealed_at a f) n i ≡ true → each (mend a) n i f ≡ []
  sealed_rests f zero i q = refl
  sealed_rests f (suc n) i q = go (kind a f i) refl (and_left (sealed_at a f i) _ q) (sealed_rests f n (suc i) (and_right (sealed_at a f i) _ q))
    where
      go : (k : Kind) → kind a f i ≡ k → is_sealed (kind a f i) ≡ true → each (mend a) n (suc i) f ≡ [] → each (mend a) (suc n) i f ≡ []
      go Sealed e t ih = rw e ih
      go Torn e t ih = absurd (false≢true (rw e at t))
      go Neither e t ih = absurd (false≢true (rw e at t))

  pub sealed_drops : (f : List ℕ) → is_free (recovery a f) && every (sealed_at a f) a.pages 0 ≡ true → recover_list a f ≡ drop_doubles a f
  sealed_drops f e = go (recovery a f) refl (and_left (is_free (recovery a f)) pages e)
    where
      pages : Bool
      pages = every (sealed_at a f) a.pages 0

      go : (r : Recovery) → recovery a f ≡ r → is_free (recovery a f) ≡ true → recover_list a f ≡ drop_doubles a f
      go Free q t = rw (q, sealed_rests f a.pages 0 (and_right (is_free (recovery a f)) pages e))
      go Unfinished q t = absurd (false≢true (rw q at t))
      go (Committed i) q t = absurd (false≢true (rw q at t))
      go Damage q t = absurd (false≢true (rw q at t))

  -- a ready area has nothing to recover
  pub ready_rests : (f : List ℕ) → ready a f ≡ true → recover_list a f ≡ []
  unfolding ready
  ready_rests f e =
      let sealed = is_free (recovery a f) && every (sealed_at a f) a.pages 0 in
      let once = not (twice (entries a f)) in
      let h : sealed && once ≡ true = and_assoc (is_free (recovery a f)) (every (sealed_at a f) a.pages 0) once ∙ e in
      sealed_drops f (and_left sealed once h) ∙ supersede_none (entries a f) (not-true (twice (entries a f)) (and_right sealed once h))

  -- a ready area is recovered to itself
  pub stands_recovered : {m : Map} {n : ℕ} (f : List ℕ) → Stands a m n f → recovered a f ≡ f
  stands_recovered f s = rw (ready_rests f s.ready)

pub stands_undamaged : {a : Area} {m : Map} {n : ℕ} {f : List ℕ} → Stands a m n f → Undamaged a f
stands_undamaged s = mended_undamaged (stands_settled s).0

-- a flash from before, and one from after
pub safe_before : {a : Area} {m m' : Map} {n n' : ℕ} {f : List ℕ} → Stands a m n f → Safe a m n m' n' f
safe_before {a} {f = f} s = record { undamaged = stands_undamaged s; ends = inl (rw (stands_recovered a f s) s) }

pub safe_after : {a : Area} {m m' : Map} {n n' : ℕ} {f : List ℕ} → Stands a m' n' f → Safe a m n m' n' f
safe_after {a} {f = f} s = record { undamaged = stands_undamaged s; ends = inr (rw (stands_recovered a f s) s) }

-- a ready flash that step (a) ends in is what the recovery ends in
pub recovered_by : {a : Area} {m : Map} {n : ℕ} (g p : List ℕ) → after (finish a) g ≡ p → Stands a m n p → recovered a g ≡ p
recovered_by {a} g p e s =
    let t = stands_settled s in
    let r = sym (recover_mended a p t.0) ∙ ready_rests a p s.ready in
    after_then (finish a) (mend_and_drop a) g ∙ ap (after (mend_and_drop a)) e ∙ ap (λ (u : List Store). made u p) r

-- ---- what it keeps
-- step (a) leaves what is to be kept
finish_kept : {a : Area} (f : List ℕ) → Undamaged a f → kept a (after (finish a) f) ≡ kept a f
unfolding kept
finish_kept {a} f v = laid_same a (kept_items a (after (finish a) f)) (kept_items a f) a.pages 0 (λ i lo hi. go (recovery a f) refl i (omega arith))
  where
    own : (i : ℕ) → kept_items a (after (finish a) f) i ≡ kept_of (kind a (after (finish a) f) i) (items (page a (after (finish a) f) i))
    own i = own_items (finished a f v).ends i

    go : (r : Recovery) → recovery a f ≡ r → (i : ℕ) → i < a.pages → kept_items a (after (finish a) f) i ≡ kept_items a f i
    go Free e i h = let z : after (finish a) f ≡ f = rw e in ap (λ (g : List ℕ). kept_items a g i) z
    go Unfinished e i h =
        let l : finish a f ≡ erase a (R a) ∷ [] = rw e in
        let o = ((turns_wipe a (R a) (page a f (R a)) (le_refl (R a))).on f (fits a f v a.pages (omega arith)) refl).1 in
        let p : page a (after (finish a) f) i ≡ page a f i = rw l (o.there i (λ q. omega arith)) in
        own i ∙ rw (p, e)
    go (Committed j) e i h = ⊎_elim named (λ d. other d) (same_or_not j i)
      where
        w : Restored a f j (after (finish a) f)
        w = restored a f v j e

        named : j ≡ i → kept_items a (after (finish a) f) i ≡ kept_items a f i
        named q =
            let p : page a (after (finish a) f) i ≡ page a f (R a) = subst (λ (u : ℕ). page a (after (finish a) f) u ≡ page a f (R a)) q w.here in
            let k : kind_of a.pages i (page a f (R a)) ≡ Sealed = subst (λ (u : ℕ). kind_of a.pages u (page a f (R a)) ≡ Sealed) q (committed_r a.pages j (page a f (R a)) e).1 in
            own i ∙ rw (p, k, e, eq-eqb i j (sym q))

        other : j ≢ i → kept_items a (after (finish a) f) i ≡ kept_items a f i
        other d = own i ∙ rw (w.there i d (λ q. omega arith), e, ne_eqb i j (λ q. d (sym q)))
    go Damage e i h = absurd (true≢false (sym (ap is_damage e) ∙ undamaged_r a f v))

-- the whole recovery leaves each handle the last live entry of what is to be kept
pub recovered_keeps : {a : Area} (f : List ℕ) → Undamaged a f → (u : ℕ) → find u (entries a (recovered a f)) ≡ last_live u (kept a f)
recovered_keeps {a} f v u =
    let g = after (finish a) f in
    let s = ready_settled (given_made (recover_list a f) v.given) (recover_ready a f v) in
    let k = peels_same (later_peels a) (λ f u. refl) (λ f g h p q u. q u ∙ p u) g (finished a f v).ends u in
    once_last u (entries a (recovered a f)) s.1
    ∙ ap (last_live u) (sym (settled_kept s.0))
    ∙ ap (λ (x : List ℕ). last_live u (kept a x)) (after_then (finish a) (mend_and_drop a) f)
    ∙ k
    ∙ ap (last_live u) (finish_kept f v)

-- with no R committed and no page torn, all entries are to be kept
pub plain_kept : (a : Area) (f : List ℕ) → ((i : ℕ) → recovery a f ≢ Committed i) → ((i : ℕ) → i < a.pages → kind a f i ≡ Sealed) → kept a f ≡ entries a f
unfolding kept entries
plain_kept a f c s =
    laid_same a (kept_items a f) (λ i. items (page a f i)) a.pages 0 (λ i lo hi. go (recovery a f) refl i (omega arith)) ∙ sym (from_laid a f a.pages 0)
  where
    go : (r : Recovery) → recovery a f ≡ r → (i : ℕ) → i < a.pages → kept_items a f i ≡ items (page a f i)
    go Free e i h = rw (e, s i h)
    go Unfinished e i h = rw (e, s i h)
    go (Committed j) e i h = absurd (c j e)
    go Damage e i h = rw (e, s i h)

-- ---- undamaged, in the layout's words
sound_page : {n i : ℕ} {p : List ℕ} → 2 ≤ length p → is_sound (kind_of n i p) ≡ true → PageIs n i p
sound_page {n} {i} {p} l s = go (kind_of n i p) refl s
  where
    go : (k : Kind) → kind_of n i p ≡ k → is_sound k ≡ true → PageIs n i p
    go Sealed e t = let w = sealed_shape n i p l e in sealed_page (items p) w.0 (goods_items p) (w.1 ∙ image_layout n i (items p) seal w.0)
    go Torn e t = let w = torn_shape n i p l e in torn_page (items p) w.0 (goods_items p) (w.1 ∙ image_layout n i (items p) blank w.0)
    go Neither e t = absurd (true≢false (sym t))

page_sound : {n i : ℕ} {p : List ℕ} → PageIs n i p → is_sound (kind_of n i p) ≡ true
page_sound {n} {i} (sealed_page es m gs e) = rw (e, ← image_layout n i es seal m, kind_image at_seal n i m es gs)
page_sound {n} {i} (torn_page es m gs e) = rw (e, ← image_layout n i es blank m, kind_image at_blank n i m es gs)

pub undamaged_pages_are : {a : Area} {f : List ℕ} → Undamaged a f
    → (o : Option ℕ) × RIs a.pages (page a f (R a)) o × ((i : ℕ) → i < a.pages → o ≢ Some i → PageIs a.pages i (page a f i))
undamaged_pages_are {a} {f} u = go (recovery a f) refl
  where
    long : (i : ℕ) → i ≤ a.pages → 2 ≤ length (page a f i)
    long i h = let w = (shape_of u.given).wide in let l = length_page a f i (page_in (shape_of u.given) i h) in omega arith

    go : (r : Recovery) → recovery a f ≡ r → (o : Option ℕ) × RIs a.pages (page a f (R a)) o × ((i : ℕ) → i < a.pages → o ≢ Some i → PageIs a.pages i (page a f i))
    go Free e =
        let b = free_blank a.pages (page a f (R a)) e in
        let l = long (R a) (le_refl (R a)) in
        let w : get_or (page a f (R a)) 1 0 ≡ blank = ap (λ (r : List ℕ). get_or r 1 0) b ∙ get_or-replicate (length (page a f (R a))) 1 blank 0 (omega arith) in
        (None, open_page w, λ i h n. sound_page (long i (omega arith)) (rw e at (undamaged_pages u i h)))
    go Unfinished e = (None, open_page (unfinished_word a.pages (page a f (R a)) e), λ i h n. sound_page (long i (omega arith)) (rw e at (undamaged_pages u i h)))
    go (Committed j) e =
        let c = committed_r a.pages j (page a f (R a)) e in
        let w = sealed_shape a.pages j (page a f (R a)) (long (R a) (le_refl (R a))) c.1 in
        let es = items (page a f (R a)) in (
          Some j,
          committed_page c.0 es w.0 (goods_items (page a f (R a))) (w.1 ∙ image_layout a.pages j es seal w.0),
          λ i h n. sound_page (long i (omega arith)) (other i n (rw e at (undamaged_pages u i h))),
        )
      where
        other : (i : ℕ) → Some j ≢ Some i → eqb i j || is_sound (kind a f i) ≡ true → is_sound (kind a f i) ≡ true
        other i n q = let z = ne_eqb i j (λ c. n (ap Some (sym c))) in rw z at q
    go Damage e = absurd (true≢false (sym (ap is_damage e) ∙ undamaged_r a f u))

pub pages_undamaged : {a : Area} {f : List ℕ} → Usable a f → {o : Option ℕ} → RIs a.pages (page a f (R a)) o
    → ((i : ℕ) → i < a.pages → o ≢ Some i → PageIs a.pages i (page a f i)) → damaged a f ≡ false
pages_undamaged {a} {f} g (open_page w) h =
    ⊎_elim (λ c. undamaged_by a f (rw c) (λ i l. rw c (page_sound (h i l (λ e. let z : ◌≡◌ {A = ℕ} 0 1 = cc in omega arith)))))
    (λ c. undamaged_by a f (rw c) (λ i l. rw c (page_sound (h i l (λ e. let z : ◌≡◌ {A = ℕ} 0 1 = cc in omega arith))))) (open_r a.pages (page a f (R a)) w)
pages_undamaged {a} {f} g (committed_page {i = j} l es m gs e) h = undamaged_by a f (rw c) pages
  where
    c : recovery a f ≡ Committed j
    c = rw (e, ← image_layout a.pages j es seal m) (closed_r a.pages j es m l (shape_of g).many gs)

    pages : (i : ℕ) → i < a.pages → names (recovery a f) i || is_sound (kind a f i) ≡ true
    pages i b = rw c (⊎_elim (λ q. rw (eq-eqb i j (sym q))) (λ n. rw (page_sound (h i b (λ q. n (same q)))) (or-true (eqb i j))) (same_or_not j i))
      where
        same : Some j ≡ Some i → j ≡ i
        same q = cc
