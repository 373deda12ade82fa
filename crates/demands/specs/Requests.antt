-- Writes and deletes as they are asked for: every list of stores that a plan gives is fair, makes the change that was asked, and cut
-- anywhere is recovered to the map from before or to the map from after; and the two facts that demand 3 follows from. Assumes nothing.
use Rattle.std.specs.Prelude.{◌≡◌, refl, ◌≢◌, List, [], ◌∷◌, ◌++◌, Bool, true, false, cond, not, ◌&&◌, ℕ, suc, zero, ◌+◌, ◌-◌, ◌*◌, ◌≤◌, ◌<◌, length, leb, ltb, eqb, Option, Some, None, is_none}
use Rattle.std.proofs.Common.{ap, sym, ◌∙◌, subst, ⊎_elim, inl, true≢false, arith, length-append, lt-ltb, eqb-true, eq-eqb, ne_eqb, leb-false, ltb-false, le-ltb}
use Rattle.std.proofs.Math.Bool.{and-false}
use Rattle.std.proofs.lemmas.Bool.{false≢true, eqb-false, lt-leb}
use Rattle.flash.specs.Stores.{Words, Store, apply, made, made_first, ◌then◌}
use Rattle.flash.specs.Laws.{le_or_lt, first_none, first_all, first_nil, first_then}
use Rattle.rules.specs.declared.Area.{Area}
use Rattle.rules.specs.declared.Refusal.{Refusal}
use Rattle.rules.specs.declared.Refusal.TheVariants.{NotFound, NoRoom, BadHandle}
use Rattle.rules.specs.Words.{special, is_live, last_seal}
use Rattle.rules.specs.Walk.{entry_length, stop}
use Rattle.rules.specs.Areas.{page, Entry, page_entries, entries, twice, find, data_of, map_of, live_words, ready}
use Rattle.rules.specs.Refusals.{checked, bad_handle, bad_length, same_words, is_data, holds, area_quota, no_room, recover_checks, write_checks, find_checks, Plan, refuse, list, outcome_of}
use Rattle.rules.specs.Lists.{bare, bare_if, delete_list, delete_plan, compact, room_page, compact_page, append, append_compacted, append_to, write_list, write_plan, recover_list, recover_plan, Request, format, recover, write, delete, plan_of}
use Rattle.rules.specs.Laws.{and_left, and_right, nor_left, nor_right, Passed, passed_checked, checked_passed}
use Rattle.demands.specs.Terms.{Fair, fair_end, append_stores, WriteStores, held, appended, compacted, Change, Proper, handle_in, new_words, Map, changed, was_cut, run, recovered, Recovers, whole, then_again}
use Rattle.demands.specs.Stages.{after_then, fair_append}
use Rattle.demands.specs.Runs.{shape_of, Usable}
use Rattle.demands.specs.Entries.{found_some, data_none, zeroed, twice_skip, once_drop, look_drop, live_skip, live_at, find_some, look}
use Rattle.demands.specs.Settled.{Stands, stands_by, stands_settled, stands_look, ready_sound, ready_passed, passed_ready, invalidate}
use Rattle.demands.specs.Finishing.{Undamaged, Safe, stands_undamaged, safe_before, safe_after, recover_resumes, stands_recovered}
use Rattle.demands.specs.Room.{compact_length, append_length, room_page_first, compact_page_first, compact_exists}
use Rattle.demands.specs.Compacting.{packed, packed_stands, packed_room, compact_fair, compact_cut}
use Rattle.demands.specs.Appending.{Fitting, append_fair, append_stands, append_cut}

-- A list of stores that turns one map into another: made whole it has, and cut anywhere it has or has not.
pub record Changes (a : Area) (m : Map) (n : ℕ) (m' : Map) (n' : ℕ) (f : List ℕ) (ss : List Store) : Type 0 where
  pub fair : Fair a ss f
  pub stands : Stands a m' n' (made ss f)
  pub cut : (k : ℕ) → Safe a m n m' n' (made_first k ss f)

pub stands_as : {a : Area} {m m' : Map} {n n' : ℕ} {f : List ℕ} → ((u : ℕ) → m u ≡ m' u) → n ≤ n' → Stands a m n f → Stands a m' n' f
stands_as e l s = let k = s.live in record { given = s.given; ready = s.ready; map = λ u. s.map u ∙ e u; live = omega arith }

-- ---- handles and data
pub legal_handle : (h : ℕ) → 1 ≤ h → h ≤ 0x7EFF → bad_handle h ≡ false
legal_handle h l k = rw (ne_eqb h 0 (λ e. omega arith), lt-leb special h (omega arith))

handle_legal : (h : ℕ) → bad_handle h ≡ false → (1 ≤ h) × (h ≤ 0x7EFF)
handle_legal h b =
    let n = eqb-false h 0 (nor_left (eqb h 0) (leb special h) b) in
    let l = leb-false special h (nor_right (eqb h 0) (leb special h) b) in
    (omega arith, omega arith)

legal_live : (h : ℕ) → 1 ≤ h → is_live h ≡ true
legal_live h l = rw (ne_eqb h 0 (λ e. omega arith))

same_words_true : (x y : List ℕ) → same_words x y ≡ true → x ≡ y
same_words_true [] [] e = refl
same_words_true [] (y ∷ ys) e = absurd (false≢true e)
same_words_true (x ∷ xs) [] e = absurd (false≢true e)
same_words_true (x ∷ xs) (y ∷ ys) e =
    let a = eqb-true x y (and_left (eqb x y) (same_words xs ys) e) in
    let b = same_words_true xs ys (and_right (eqb x y) (same_words xs ys) e) in
    cc

words_same : (x : List ℕ) → same_words x x ≡ true
words_same [] = refl
words_same (x ∷ xs) = rw (eq-eqb x x refl) (words_same xs)

is_data_true : (o : Option (List ℕ)) (d : List ℕ) → is_data o d ≡ true → o ≡ Some d
is_data_true None d e = absurd (false≢true e)
is_data_true (Some v) d e = ap Some (same_words_true v d e)

holds_map : (a : Area) (f : List ℕ) (h : ℕ) (d : List ℕ) → holds a f h d ≡ true → map_of a f h ≡ Some d
unfolding holds
holds_map a f h d e = is_data_true (map_of a f h) d e

pub map_holds : (a : Area) (f : List ℕ) (h : ℕ) (d : List ℕ) → map_of a f h ≡ Some d → holds a f h d ≡ true
unfolding holds
map_holds a f h d e = rw e (words_same d)

quota_left : (a : Area) (f : List ℕ) (h : ℕ) (d : List ℕ) → no_room a f h d ≡ false → holds a f h d ≡ false → live_words (entries a f) + entry_length d ≤ area_quota a
unfolding no_room
quota_left a f h d e q = ltb-false (area_quota a) (live_words (entries a f) + entry_length d) (rw q at e)

pub room_held : (a : Area) (f : List ℕ) (h : ℕ) (d : List ℕ) → holds a f h d ≡ true → no_room a f h d ≡ false
unfolding no_room
room_held a f h d e = rw e

pub room_left : (a : Area) (f : List ℕ) (h : ℕ) (d : List ℕ) → live_words (entries a f) + entry_length d ≤ area_quota a → no_room a f h d ≡ false
unfolding no_room
room_left a f h d l = rw (le-ltb (area_quota a) (live_words (entries a f) + entry_length d) l) (and-false (not (holds a f h d)))

room_gone : (a : Area) (f : List ℕ) (h : ℕ) (d : List ℕ) → map_of a f h ≢ Some d → area_quota a < live_words (entries a f) + entry_length d → no_room a f h d ≡ true
unfolding no_room
room_gone a f h d n l = go (holds a f h d) refl
  where
    go : (b : Bool) → holds a f h d ≡ b → not (holds a f h d) && ltb (area_quota a) (live_words (entries a f) + entry_length d) ≡ true
    go true e = absurd (n (holds_map a f h d e))
    go false e = rw (e, lt-ltb (area_quota a) (live_words (entries a f) + entry_length d) l)

most : (b : Bool) → cond b 2 3 ≤ 3
most true = omega arith
most false = omega arith

-- ---- a write
module _ {a : Area} {m : Map} {n : ℕ} {f : List ℕ} (s : Stands a m n f) (h : ℕ) (d : List ℕ) (p : Proper (write h d)) where
  abbrev m' : Map
  m' = changed (write h d) m

  abbrev n' : ℕ
  n' = n + entry_length d

  fitting : (g : List ℕ) (i : ℕ) → i < a.pages → stop (page a g i) + entry_length d ≤ last_seal a.words → Fitting a g i h d
  fitting g i l r = record { inside = l; live = legal_live h p.0; small = omega (arith, p.1); short = p.2; words = p.3; room = r }

  -- to a page that has the room
  append_changes : (i : ℕ) → room_page a f (entry_length d) ≡ Some i → Changes a m n m' n' f (append a h d i f)
  append_changes i e =
      let r = room_page_first a f (entry_length d) i e in
      let t = fitting f i r.0 r.1 in
      record { fair = append_fair s i h d t; stands = append_stands s i h d t; cut = append_cut s i h d t }

  -- to a page compacted
  module _ (i : ℕ) (e : compact_page a f (entry_length d) ≡ Some i) where
    inside : i < a.pages
    inside = (compact_page_first a f (entry_length d) i e).0

    then_fits : Fitting a (packed s i inside) i h d
    then_fits = fitting (packed s i inside) i inside (packed_room s i inside (entry_length d) (compact_page_first a f (entry_length d) i e).1)

    then_stands : Stands a m n (packed s i inside)
    then_stands = packed_stands s i inside

    then_cut : (k : ℕ) → Safe a m n m' n' (made_first k ((compact a i then append a h d i) f) f)
    then_cut k = rw (first_then k (compact a i) (append a h d i) f) (⊎_elim long part (le_or_lt (length (compact a i f)) k))
      where
        part : k < length (compact a i f) → Safe a m n m' n' (made_first (k - length (compact a i f)) (append a h d i (made_first k (compact a i f) f)) (made_first k (compact a i f) f))
        part l =
            let g = made_first k (compact a i f) f in
            let z : k - length (compact a i f) ≡ 0 = omega arith in
            let c = compact_cut s i inside k in
            rw (z, first_none (append a h d i g) g)
            (record { undamaged = c.0; ends = inl (⊎_elim (λ q. rw q s) (λ q. rw q then_stands) c.1) })

        long : length (compact a i f) ≤ k → Safe a m n m' n' (made_first (k - length (compact a i f)) (append a h d i (made_first k (compact a i f) f)) (made_first k (compact a i f) f))
        long l = rw (first_all k (compact a i f) f l) (append_cut then_stands i h d then_fits (k - length (compact a i f)))

    compact_changes : Changes a m n m' n' f ((compact a i then append a h d i) f)
    compact_changes = record {
      fair = fair_append (compact_fair s i inside) (append_fair then_stands i h d then_fits);
      stands = rw (after_then (compact a i) (append a h d i) f) (append_stands then_stands i h d then_fits);
      cut = then_cut;
    }

  -- data that is held already
  held_changes : holds a f h d ≡ true → Changes a m n m' n' f []
  held_changes e = record { fair = fair_end; stands = t; cut = λ k. rw (first_nil k f) (safe_after t) }
    where
      same : (u : ℕ) → m u ≡ m' u
      same u = go (eqb u h) refl
        where
          go : (b : Bool) → eqb u h ≡ b → m u ≡ m' u
          go true q = rw (q, eqb-true u h q) (sym (s.map h) ∙ holds_map a f h d e)
          go false q = rw q

      t : Stands a m' n' f
      t = stands_as same (omega arith) s

  -- the ways that a write can go
  data Way : List Store → Type 0 where
    nothing_to_do : holds a f h d ≡ true → Way []
    to_room : holds a f h d ≡ false → (i : ℕ) → room_page a f (entry_length d) ≡ Some i → Way (append a h d i f)
    by_compaction : holds a f h d ≡ false → room_page a f (entry_length d) ≡ None → (i : ℕ) → compact_page a f (entry_length d) ≡ Some i
        → Way ((compact a i then append a h d i) f)

  way : no_room a f h d ≡ false → Way (write_list a h d f)
  way q = go (holds a f h d) refl
    where
      packing : holds a f h d ≡ false → room_page a f (entry_length d) ≡ None → (o : Option ℕ) → compact_page a f (entry_length d) ≡ o → Way (append_compacted a h d o f)
      packing z r None e = let l = p.2 in absurd (compact_exists a f (entry_length d) (shape_of s.given) (omega arith) (quota_left a f h d q z) e)
      packing z r (Some i) e = by_compaction z r i e

      placing : holds a f h d ≡ false → (o : Option ℕ) → room_page a f (entry_length d) ≡ o → Way (append_to a h d o f)
      placing z None e = packing z e (compact_page a f (entry_length d)) refl
      placing z (Some i) e = to_room z i e

      go : (b : Bool) → holds a f h d ≡ b → Way (write_list a h d f)
      go true e = rw e (nothing_to_do e)
      go false e = rw e (placing e (room_page a f (entry_length d)) refl)

  way_changes : (ss : List Store) → Way ss → Changes a m n m' n' f ss
  way_changes ss (nothing_to_do e) = held_changes e
  way_changes ss (to_room z i e) = append_changes i e
  way_changes ss (by_compaction z r i e) = compact_changes i e

  write_changes : no_room a f h d ≡ false → Changes a m n m' n' f (write_list a h d f)
  write_changes q = way_changes (write_list a h d f) (way q)

  -- how many stores
  old_stores : (g : List ℕ) {m₁ : Map} {n₁ : ℕ} → Stands a m₁ n₁ g → m₁ h ≡ m h → length d + 2 + length (bare_if (find h (entries a g))) ≡ append_stores a f h d
  old_stores g t e = go (find h (entries a g)) (find h (entries a f)) (stands_look t h ∙ e ∙ sym (stands_look s h))
    where
      go : (x y : Option Entry) → data_of x ≡ data_of y → length d + 2 + length (bare_if x) ≡ length d + cond (is_none y) 2 3
      go None None q = omega arith
      go None (Some y) q = absurd (let z : ◌≡◌ {A = ℕ} 0 1 = cc in omega arith)
      go (Some x) None q = absurd (let z : ◌≡◌ {A = ℕ} 0 1 = cc in omega arith)
      go (Some x) (Some y) q = omega arith

  way_counts : (ss : List Store) → Way ss → WriteStores a f h d (length ss)
  way_counts ss (nothing_to_do e) = held e
  way_counts ss (to_room z i e) = subst (WriteStores a f h d) (sym (append_length a h d i f ∙ old_stores f s refl)) (appended z i e)
  way_counts ss (by_compaction z r i e) =
      let g = packed s i (inside i e) in
      let k : length ((compact a i then append a h d i) f) ≡ 2 * live_words (page_entries a f i) + 8 + append_stores a f h d =
      length-append (compact a i f) (append a h d i g) ∙ rw (compact_length a i f, append_length a h d i g, old_stores g (then_stands i e) refl) in
      subst (WriteStores a f h d) (sym k) (compacted z r i e)

  pub write_counts : no_room a f h d ≡ false → WriteStores a f h d (length (write_list a h d f))
  write_counts q = way_counts (write_list a h d f) (way q)

  pub write_most : (k : ℕ) → WriteStores a f h d k → k ≤ 2 * a.words + 3
  write_most k (held e) = omega arith
  write_most k (appended z i e) = let w = (shape_of s.given).wide in let l = p.2 in let b = most (is_none (find h (entries a f))) in omega arith
  write_most k (compacted z r i e) =
      let c = (compact_page_first a f (entry_length d) i e).1 in
      let w = (shape_of s.given).wide in
      let b = most (is_none (find h (entries a f))) in
      omega arith

  pub write_planned : no_room a f h d ≡ false → write_plan a h d f ≡ list (write_list a h d f)
  write_planned q =
      let g = s.given in
      passed_checked refuse (write_checks a f h d) (list (write_list a h d f)) (g.right, (ready_sound a f g s.ready, (ready_passed a f s.ready, (legal_handle h p.0 p.1, (le-ltb 32 (length d) p.2, (q, tt))))))

  pub write_refused : map_of a f h ≢ Some d → area_quota a < live_words (entries a f) + entry_length d → write_plan a h d f ≡ refuse NoRoom
  write_refused c l =
      let g = s.given in
      rw (g.right, ready_sound a f g s.ready, ready_passed a f s.ready, legal_handle h p.0 p.1, le-ltb 32 (length d) p.2, room_gone a f h d c l)

-- ---- a delete
module _ {a : Area} {m : Map} {n : ℕ} {f : List ℕ} (s : Stands a m n f) (h : ℕ) where
  dropped : (p : List Entry) (e : Entry) (y : List Entry) → entries a f ≡ p ++ e ∷ y → e.handle ≡ h
      → Fair a (bare e ∷ []) f × Stands a (changed (delete h) m) n (apply (bare e) f)
  dropped p e y is mine =
      let v = invalidate p e y (stands_settled s).0 is in
      let o : twice (p ++ e ∷ y) ≡ false = rw is at (stands_settled s).1 in
      let l : live_words (p ++ e ∷ y) ≤ n = rw is at s.live in
      let k = live_at p e y in (
        v.fair,
        stands_by (p ++ zeroed e ∷ y) v.settled v.entries (twice_skip p e y ∙ once_drop p e y o)
            (λ u. look_drop u p e y o ∙ ap (λ (x : ℕ). cond (eqb u x) None (look u (p ++ e ∷ y))) mine ∙ ap (λ (x : List Entry). cond (eqb u h) None (look u x)) (sym is)
            ∙ ap (λ (x : Option (List ℕ)). cond (eqb u h) None x) (stands_look s u)) (rw (live_skip p e y) (omega arith)),
      )

  delete_changes : (e : Entry) → find h (entries a f) ≡ Some e → Changes a m n (changed (delete h) m) n f (bare e ∷ [])
  delete_changes e q = record { fair = t.0; stands = t.1; cut = cut }
    where
      t : Fair a (bare e ∷ []) f × Stands a (changed (delete h) m) n (apply (bare e) f)
      t = let w = find_some h (entries a f) e q in dropped w.0 e w.1 w.2 w.3

      cut : (k : ℕ) → Safe a m n (changed (delete h) m) n (made_first k (bare e ∷ []) f)
      cut zero = rw (first_none (bare e ∷ []) f) (safe_before s)
      cut (suc k) = rw (first_all (suc k) (bare e ∷ []) f (omega arith)) (safe_after t.1)

-- ---- either, from its plan
-- checks that let a list through
pub listed : (cs : List (Bool × Refusal)) (ss ts : List Store) → checked refuse cs (list ss) ≡ list ts → Passed cs × (ss ≡ ts)
listed cs ss ts e =
    let k = checked_passed refuse cs (list ss) (list ts) (λ c q. let z : ◌≡◌ {A = ℕ} 0 1 = cc in omega arith) e in
    let l = k.1 in
    (k.0, cc)

pub proper_of : (h : ℕ) (d : List ℕ) → bad_handle h ≡ false → bad_length d ≡ false → Words d → Proper (write h d)
proper_of h d b l w = let k = handle_legal h b in (k.0, k.1, ltb-false 32 (length d) l, w)

-- the store of a delete
pub delete_list_bare : (a : Area) (f : List ℕ) (h : ℕ) (ss : List Store) → delete_plan a h f ≡ list ss → (e : Entry) × (find h (entries a f) ≡ Some e) × (ss ≡ bare e ∷ [])
delete_list_bare a f h ss e =
    let k = listed (find_checks a f h) (delete_list a h f) ss e in
    let w = found_some (find h (entries a f)) k.0.1.1.1.1.0 in
    (w.0, w.1, sym k.1 ∙ ap bare_if w.1)

pub changes : {a : Area} {m : Map} {n : ℕ} {f : List ℕ} → Stands a m n f → (r : Request) → Change r → (ss : List Store) → plan_of a r f ≡ list ss
    → Changes a m n (changed r m) (n + new_words r) f ss
changes s format c ss e = absurd c
changes s recover c ss e = absurd c
changes {a} {m} {n} {f} s (write h d) c ss e =
    let k = listed (write_checks a f h d) (write_list a h d f) ss e in
    let t = k.0.1.1.1 in
    subst (λ (u : List Store). Changes a m n (changed (write h d) m) (n + entry_length d) f u) k.1 (write_changes s h d (proper_of h d t.0 t.1.0 c) t.1.1.0)
changes {a} {m} {n} {f} s (delete h) c ss e =
    let w = delete_list_bare a f h ss e in
    let z : n + 0 ≡ n = omega arith in
    rw z (subst (λ (u : List Store). Changes a m n (changed (delete h) m) n f u) (sym w.2) (delete_changes s h w.0 w.1))

-- a delete of what the map has, and of what it has not
pub delete_planned : {a : Area} {m : Map} {n : ℕ} {f : List ℕ} → Stands a m n f → (h : ℕ) → Proper (delete h) → (e : Entry) → find h (entries a f) ≡ Some e → delete_plan a h f ≡ list (bare e ∷ [])
delete_planned {a} {f = f} s h p e q =
    let g = s.given in
    rw (g.right, ready_sound a f g s.ready, ready_passed a f s.ready, legal_handle h p.0 p.1, q)

pub delete_refused : {a : Area} {m : Map} {n : ℕ} {f : List ℕ} → Stands a m n f → (h : ℕ) → Proper (delete h) → m h ≡ None → delete_plan a h f ≡ refuse NotFound
delete_refused {a} {f = f} s h p q =
    let g = s.given in
    let z = data_none (find h (entries a f)) (stands_look s h ∙ q) in
    rw (g.right, ready_sound a f g s.ready, ready_passed a f s.ready, legal_handle h p.0 p.1, z)

pub delete_absent : {a : Area} {m : Map} {n : ℕ} {f : List ℕ} → Stands a m n f → (h : ℕ) → delete_plan a h f ≡ refuse NotFound → m h ≡ None
delete_absent {a} {m} {f = f} s h e = go (bad_handle h) (find h (entries a f)) refl (rw (g.right, ready_sound a f g s.ready, ready_passed a f s.ready) at e)
  where
    g : Usable a f
    g = s.given

    go : (b : Bool) (o : Option Entry) → find h (entries a f) ≡ o → cond b (refuse BadHandle) (cond (is_none o) (refuse NotFound) (list (bare_if o))) ≡ refuse NotFound → m h ≡ None
    go true o q z = absurd (let y : ◌≡◌ {A = ℕ} 0 1 = cc in omega arith)
    go false None q z = sym (stands_look s h) ∙ rw q
    go false (Some c) q z = absurd (let y : ◌≡◌ {A = ℕ} 0 1 = cc in omega arith)

-- a plan that lists stores was made on a ready area
pub change_ready : (a : Area) (f : List ℕ) (r : Request) → Change r → (ss : List Store) → plan_of a r f ≡ list ss → ready a f ≡ true
change_ready a f format c ss e = absurd c
change_ready a f recover c ss e = absurd c
change_ready a f (write h d) c ss e = let k = (listed (write_checks a f h d) (write_list a h d f) ss e).0 in passed_ready a f k.1.0 k.1.1.0
change_ready a f (delete h) c ss e = let k = (listed (find_checks a f h) (delete_list a h f) ss e).0 in passed_ready a f k.1.0 k.1.1.0

-- with any power
pub run_safe : {a : Area} {m : Map} {n : ℕ} {f : List ℕ} → Stands a m n f → (r : Request) → Change r → (k : ℕ) → Safe a m n (changed r m) (n + new_words r) (run a r k f).flash
run_safe {a} {m} {n} {f} s r c k = go (plan_of a r f) refl
  where
    go : (p : Plan) → plan_of a r f ≡ p → Safe a m n (changed r m) (n + new_words r) (outcome_of p k f).flash
    go (refuse x) e = safe_before s
    go (list ss) e = (changes s r c ss e).cut k

-- a list that is not cut is no longer than the power lasts
pub uncut_list : (ss : List Store) (k : ℕ) (f : List ℕ) → was_cut (outcome_of (list ss) k f).answer ≡ false → length ss ≤ k
uncut_list ss k f c = ⊎_elim (λ h. h) short (le_or_lt (length ss) k)
  where
    short : k < length ss → length ss ≤ k
    short h = absurd (true≢false (rw (lt-leb (length ss) k h) at c))

-- ---- recoveries, cut any number of times
pub recover_planned : {a : Area} {f : List ℕ} → Undamaged a f → recover_plan a f ≡ list (recover_list a f)
recover_planned {a} {f} u = passed_checked refuse (recover_checks a f) (list (recover_list a f)) (u.given.right, (u.sound, tt))

pub recovers_ends : {a : Area} {f g : List ℕ} → Undamaged a f → Recovers a f g → g ≡ recovered a f
recovers_ends {a} {f} u (whole k e) =
    let p = recover_planned u in
    ap (λ (x : Plan). (outcome_of x k f).flash) p ∙ first_all k (recover_list a f) f (uncut_list (recover_list a f) k f (rw p at e))
recovers_ends {a} {f} {g} u (then_again k t) =
    let p : (run a recover k f).flash ≡ made_first k (recover_list a f) f = ap (λ (x : Plan). (outcome_of x k f).flash) (recover_planned u) in
    let r = recover_resumes a in
    recovers_ends (subst (Undamaged a) (sym p) (r.keeps f u k)) t ∙ ap (recovered a) p ∙ r.again f u k

-- ---- what demand 3 follows from
-- what a request is to do on an area that stands: make stores, all of which leave the area with the change made; or refuse, for a
-- delete of what is not there
pub data Planned (a : Area) (r : Request) (m : Map) (n : ℕ) (f : List ℕ) : Type 0 where
  stores : (ss : List Store) → plan_of a r f ≡ list ss → Stands a (changed r m) (n + new_words r) (made ss f) → Planned a r m n f
  absent : plan_of a r f ≡ refuse NotFound → r ≡ delete (handle_in r) → m (handle_in r) ≡ None → Planned a r m n f

-- asked again when its change is made, a request does nothing: no stores, or NOTFOUND for a delete
pub data Idle (a : Area) (r : Request) (g : List ℕ) : Type 0 where
  no_stores : plan_of a r g ≡ list [] → Idle a r g
  nothing_found : plan_of a r g ≡ refuse NotFound → r ≡ delete (handle_in r) → Idle a r g

-- what a request leaves that is tried, and recovered: all as before; or the change made, and the request idle
pub data Left (a : Area) (r : Request) (m : Map) (n : ℕ) (g : List ℕ) : Type 0 where
  as_before : Stands a m n g → Left a r m n g
  changed_already : Stands a (changed r m) (n + new_words r) g → Idle a r g → Left a r m n g

module _ (a : Area) where
  pub plans : (r : Request) (m : Map) (n : ℕ) (f : List ℕ) → Proper r → Stands a m n f → n + new_words r ≤ area_quota a → Planned a r m n f
  plans format m n f p s q = absurd p
  plans recover m n f p s q = absurd p
  plans (write h d) m n f p s q =
      let l = s.live in
      let z = room_left a f h d (omega arith) in
      stores (write_list a h d f) (write_planned s h d p z) (write_changes s h d p z).stands
  plans (delete h) m n f p s q = go (find h (entries a f)) refl
    where
      go : (o : Option Entry) → find h (entries a f) ≡ o → Planned a (delete h) m n f
      go None e = let z = sym (stands_look s h) ∙ ap data_of e in absent (delete_refused s h p z) refl z
      go (Some c) e =
          let t = delete_planned s h p c e in
          stores (bare c ∷ []) t (changes s (delete h) tt (bare c ∷ []) t).stands

  -- asked again, a write that has been made has nothing to do
  write_again : (h : ℕ) (d : List ℕ) (m : Map) {n : ℕ} (g : List ℕ) → Proper (write h d) → Stands a (changed (write h d) m) n g → write_plan a h d g ≡ list []
  write_again h d m g p t =
      let k : map_of a g h ≡ Some d = t.map h ∙ rw (eq-eqb h h refl) in
      let e = map_holds a g h d k in
      write_planned t h d p (room_held a g h d e) ∙ rw e

  idle : (r : Request) (m : Map) (n : ℕ) (g : List ℕ) → Proper r → Stands a (changed r m) n g → Idle a r g
  idle format m n g p s = absurd p
  idle recover m n g p s = absurd p
  idle (write h d) m n g p s = no_stores (write_again h d m g p s)
  idle (delete h) m n g p s = nothing_found (delete_refused s h p (rw (eq-eqb h h refl))) refl

  proper_change : (r : Request) → Proper r → Change r
  proper_change format p = absurd p
  proper_change recover p = absurd p
  proper_change (write h d) p = p.3
  proper_change (delete h) p = tt

  idle_flash : (r : Request) (k : ℕ) (g : List ℕ) → Idle a r g → (run a r k g).flash ≡ g
  idle_flash r k g (no_stores e) = rw e (first_nil k g)
  idle_flash r k g (nothing_found e d) = rw e

  -- one more try
  pub leaves : (r : Request) (m : Map) (n : ℕ) (f : List ℕ) → Proper r → Left a r m n f → (k : ℕ) (g : List ℕ) → Recovers a (run a r k f).flash g → Left a r m n g
  leaves r m n f p (as_before s) k g t =
      let c = run_safe s r (proper_change r p) k in
      let w = recovers_ends c.undamaged t in
      ⊎_elim (λ x. as_before (rw w x)) (λ x. let y : Stands a (changed r m) (n + new_words r) g = rw w x in changed_already y (idle r m (n + new_words r) g p y)) c.ends
  leaves r m n f p (changed_already s i) k g t =
      let t' = subst (λ (u : List ℕ). Recovers a u g) (idle_flash r k f i) t in
      let w : g ≡ f = recovers_ends (stands_undamaged s) t' ∙ stands_recovered a f s in
      rw w (changed_already s i)
