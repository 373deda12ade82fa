-- What is claimed of the manager's crash-safety, and where it is proved. The claims are of document 01's definitions (crate `rules`); `Terms` has
-- the words that they are stated in. Each holds for every flash f of 32-bit words and every area a of right geometry on it: N from 1
-- to 255, the three page sizes. Assumes nothing.
use Rattle.std.specs.Prelude.{◌≡◌, refl, ◌⊎◌, ◌≢◌, true, false, ℕ, suc, ◌+◌, ◌-◌, ◌*◌, ◌≤◌, ◌<◌, length, take, drop, eqb, Option, Some, None, Ok, Err}
use Rattle.std.proofs.Math.Path.{ap, sym}
use Rattle.std.proofs.Common.{◌∙◌, ⊎_elim, inl, inr, arith, eq-eqb, le-leb}
use mathlib.Core.List.{List, [], ◌∷◌, ◌++◌, Permᴰ}
use Rattle.std.specs.Int.Bits.{bit_and}
use Rattle.std.proofs.lemmas.Bool.{lt-leb}
use Rattle.flash.specs.Stores.{Store, made, made_first}
use Rattle.rules.specs.declared.Area.{Area}
use Rattle.rules.specs.declared.Refusal.{Refusal}
use Rattle.rules.specs.declared.Refusal.TheVariants.{NotFound, NoRoom}
use Rattle.rules.specs.declared.Kind.TheVariants.{Sealed}
use Rattle.rules.specs.declared.Recovery.TheVariants.{Committed}
use Rattle.rules.specs.Words.{is_live, seal}
use Rattle.rules.specs.Walk.{Item, items, stop}
use Rattle.rules.specs.Areas.{R, page, kind, recovery, Entry, page_entries, entries, twice, find, data_of, map_of, live_words, damaged, ready}
use Rattle.rules.specs.Refusals.{format_checks, recover_checks, write_checks, find_checks, Plan, refuse, list, outcome_of, Answer}
use Rattle.rules.specs.Lists.{format_list, bare_if, delete_list, compact, room_page, compact_page, write_list, recover_list, Request, format, recover, write, delete, plan_of}
use Rattle.rules.specs.Search.{read_of, bad_place, search_of}
use Rattle.demands.specs.Terms.{Given, Fair, WriteStores, Typed, Change, Proper, handle_in, new_words, Map, changed, changed_all, WithinQuota, new_words_all, Holds, was_cut, run, recovered, Recovers, Tried, CarriedAll, ProperAll, AllDiffer, FineAll, blanks, Goods, written, layout, PageIs, RIs, laid, StandsAt, last_live, kept}
use Rattle.demands.specs.Pages.{image_layout}
use Rattle.demands.specs.Runs.{shape_of, Usable, usable, given_of}
use Rattle.demands.specs.Entries.{data_some, once_last}
use Rattle.demands.specs.Settled.{given_first, settled_ready, Stands, stands_settled, ready_stands, ready_sound, sealed_layout, laid_settled}
use Rattle.demands.specs.Finishing.{Undamaged, recover_resumes, recover_fair, recover_ready, ready_rests, recovered_keeps, plain_kept, undamaged_pages_are, pages_undamaged}
use Rattle.demands.specs.Format.{format_fair, format_settled, format_ready, format_empty, format_length}
use Rattle.demands.specs.Room.{room_page_first, no_room_page, compact_page_first, compact_exists}
use Rattle.demands.specs.Counting.{recover_few}
use Rattle.demands.specs.Compacting.{packed_stands, packed_room}
use Rattle.demands.specs.Reading.{read_held, read_absent, held_read, search_yields, search_skips_none, place_entry, entry_place, search_read}
use Rattle.demands.specs.Requests.{Changes, legal_handle, map_holds, room_held, room_left, write_planned, write_refused, delete_planned, delete_refused, delete_absent, listed, delete_list_bare, write_counts, write_most, changes, change_ready, run_safe, recover_planned, recovers_ends, proper_of, Left, as_before, changed_already}
use Rattle.demands.specs.Orders.{tried, enough, carried_all, reordered}
use Rattle.rules.specs.declared.Made.{Made}

module _ {a : Area} {f : List ℕ} (given : Given a f) where
  -- the terms of the proofs for those of the claims
  fit : Usable a f
  fit = usable given

  stands : ready a f ≡ true → Stands a (map_of a f) (live_words (entries a f)) f
  stands r = ready_stands fit r

  undamaged : damaged a f ≡ false → Undamaged a f
  undamaged d = record { given = fit; sound = d }

  so_holds : {g : List ℕ} {m : Map} {n : ℕ} → Stands a m n g → Holds a g m
  so_holds s = record { given = given_of s.given; ready = s.ready; map = s.map }

  changed_by : (r : Request) → Change r → (ss : List Store) → plan_of a r f ≡ list ss
      → Changes a (map_of a f) (live_words (entries a f)) (changed r (map_of a f)) (live_words (entries a f) + new_words r) f ss
  changed_by r c ss e = changes (stands (change_ready a f r c ss e)) r c ss e

  -- ---- 0. What power does: of a plan's list the first k stores are made, or all of them if there are fewer, and as many are counted; a
  -- refusal makes none. The area stays one as given.
  pub with_power : (r : Request) (ss : List Store) → plan_of a r f ≡ list ss → (k : ℕ)
      → ((run a r k f).flash ≡ made_first k ss f) × (length ss ≤ k → (run a r k f).answer ≡ Ok (Made.Done (length ss))) × (k < length ss → (run a r k f).answer ≡ Ok (Made.Cut k))
  with_power r ss e k = rw e (refl, (λ l. rw (le-leb (length ss) k l)), (λ l. rw (lt-leb (length ss) k l)))

  pub refused : (r : Request) (n : Refusal) → plan_of a r f ≡ refuse n → (k : ℕ) → ((run a r k f).flash ≡ f) × ((run a r k f).answer ≡ Err n)
  refused r n e k = rw e (refl, refl)

  pub stays_given : (r : Request) (k : ℕ) → Given a (run a r k f).flash
  stays_given r k = go (plan_of a r f)
    where
      go : (p : Plan) → Given a (outcome_of p k f).flash
      go (refuse n) = given
      go (list ss) = given_of (given_first k ss fit)

  -- On such an area a format is never refused. On a ready one a write of legal handle and length is planned just when the data is held or
  -- live words and new ones are within the quota, the old copy counted; and a delete just when the map has the handle.
  pub format_plan : plan_of a format f ≡ list (format_list a f)
  format_plan = rw fit.right

  pub write_plan : ready a f ≡ true → (h : ℕ) (d : List ℕ) → Proper (write h d) → (map_of a f h ≡ Some d) ⊎ WithinQuota a (live_words (entries a f) + (length d + 1))
      → plan_of a (write h d) f ≡ list (write_list a h d f)
  write_plan r h d p c = write_planned (stands r) h d p (⊎_elim (λ e. room_held a f h d (map_holds a f h d e)) (λ l. room_left a f h d l) c)

  pub write_no_room : ready a f ≡ true → (h : ℕ) (d : List ℕ) → Proper (write h d) → map_of a f h ≢ Some d
      → a.pages * (a.words - 3 - 33) < live_words (entries a f) + (length d + 1) → plan_of a (write h d) f ≡ refuse NoRoom
  write_no_room r h d p n l = write_refused (stands r) h d p n l

  pub delete_plan : ready a f ≡ true → (h : ℕ) → Proper (delete h) → (d : List ℕ) → map_of a f h ≡ Some d → plan_of a (delete h) f ≡ list (delete_list a h f)
  unfolding map_of
  delete_plan r h p d e = let w = data_some (find h (entries a f)) d e in delete_planned (stands r) h p w.0 w.1 ∙ ap (λ (o : Option Entry). list (bare_if o)) (sym w.1)

  pub delete_none : ready a f ≡ true → (h : ℕ) → Proper (delete h) → map_of a f h ≡ None → plan_of a (delete h) f ≡ refuse NotFound
  delete_none r h p e = delete_refused (stands r) h p e

  -- ---- 1. No store asks a cleared bit to come back, and each lies inside the run: whatever a plan lists, for whatever is asked.
  pub no_bit_back : (r : Request) → Typed r → (ss : List Store) → plan_of a r f ≡ list ss → Fair a ss f
  no_bit_back format t ss e = rw (← (listed (format_checks a f) (format_list a f) ss e).1) (format_fair fit)
  no_bit_back recover t ss e =
      let k = listed (recover_checks a f) (recover_list a f) ss e in
      rw (← k.1) (recover_fair a f (undamaged k.0.1.0))
  no_bit_back (write h d) t ss e = (changed_by (write h d) t ss e).fair
  no_bit_back (delete h) t ss e = (changed_by (delete h) t ss e).fair

  -- ---- 2. How many stores there are.
  pub format_stores : (ss : List Store) → plan_of a format f ≡ list ss → length ss ≡ 1 + 4 * a.pages
  format_stores ss e = rw (← (listed (format_checks a f) (format_list a f) ss e).1) (format_length a f)

  pub delete_stores : (h : ℕ) (ss : List Store) → plan_of a (delete h) f ≡ list ss → length ss ≡ 1
  delete_stores h ss e = ap length (delete_list_bare a f h ss e).2

  pub write_stores : (h : ℕ) (d : List ℕ) → Change (write h d) → (ss : List Store) → plan_of a (write h d) f ≡ list ss
      → WriteStores a f h d (length ss) × (length ss ≤ 2 * a.words + 3)
  write_stores h d c ss e =
      let k = listed (write_checks a f h d) (write_list a h d f) ss e in
      let t = k.0.1.1.1 in
      let s = stands (change_ready a f (write h d) c ss e) in
      let p = proper_of h d t.0 t.1.0 c in
      let w = rw k.1 at (write_counts s h d p t.1.1.0) in
      (w, write_most s h d p (length ss) w)

  pub recover_stores : (ss : List Store) → plan_of a recover f ≡ list ss → length ss ≤ a.words + 4 + (2 * a.pages + a.pages * a.words)
  recover_stores ss e = rw (← (listed (recover_checks a f) (recover_list a f) ss e).1) (recover_few a f)

  pub ready_stores : ready a f ≡ true → plan_of a recover f ≡ list []
  ready_stores r = recover_planned (undamaged (ready_sound a f fit r)) ∙ ap list (ready_rests a f r)

  -- ---- 3. The page that a write takes is the lowest whose seal leaves the room for an entry of l words, and the one to compact the lowest
  -- whose live words leave it. Within the quota there is room: where no page has it a page to compact exists, and compacted that very page
  -- has it, with the map as it was.
  pub lowest_room : (l i : ℕ) → room_page a f l ≡ Some i
      → (i < a.pages) × (stop (page a f i) + l ≤ a.words - 1) × ((j : ℕ) → j < i → a.words - 1 < stop (page a f j) + l)
  lowest_room l i e = room_page_first a f l i e

  pub no_room : (l : ℕ) → room_page a f l ≡ None → (i : ℕ) → i < a.pages → a.words - 1 < stop (page a f i) + l
  no_room l e i h = no_room_page a f l e i h

  pub lowest_compact : (l i : ℕ) → compact_page a f l ≡ Some i
      → (i < a.pages) × (live_words (page_entries a f i) + l ≤ a.words - 3) × ((j : ℕ) → j < i → a.words - 3 < live_words (page_entries a f j) + l)
  lowest_compact l i e = compact_page_first a f l i e

  pub room : ready a f ≡ true → (l : ℕ) → l ≤ 33 → WithinQuota a (live_words (entries a f) + l) → room_page a f l ≡ None
      → (i : ℕ) × (i < a.pages) × (compact_page a f l ≡ Some i) × (stop (page a (made (compact a i f) f) i) + l ≤ a.words - 1)
      × Holds a (made (compact a i f) f) (map_of a f)
  room r l h q e = go (compact_page a f l) refl
    where
      go : (o : Option ℕ) → compact_page a f l ≡ o → (i : ℕ) × (i < a.pages) × (o ≡ Some i) × (stop (page a (made (compact a i f) f) i) + l ≤ a.words - 1)
          × Holds a (made (compact a i f) f) (map_of a f)
      go None c = absurd (compact_exists a f l (shape_of fit) h q c)
      go (Some i) c =
          let p = compact_page_first a f l i c in
          (i, p.0, refl, packed_room (stands r) i p.0 l p.1, so_holds (packed_stands (stands r) i p.0))

  -- ---- 4. What is written reads back, and nothing else changes. Live words grow by no more than the new ones, and a delete is refused by
  -- NOTFOUND only for what the map has not.
  pub whole_change : (r : Request) → Change r → (ss : List Store) → plan_of a r f ≡ list ss → Holds a (made ss f) (changed r (map_of a f))
  whole_change r c ss e = so_holds (changed_by r c ss e).stands

  pub live_words_most : (r : Request) → Change r → (ss : List Store) → plan_of a r f ≡ list ss → live_words (entries a (made ss f)) ≤ live_words (entries a f) + new_words r
  live_words_most r c ss e = (changed_by r c ss e).stands.live

  pub not_found : ready a f ≡ true → (h : ℕ) → plan_of a (delete h) f ≡ refuse NotFound → map_of a f h ≡ None
  not_found r h e = delete_absent (stands r) h e

  pub reads_back : (h : ℕ) (d : List ℕ) → Change (write h d) → (ss : List Store) → plan_of a (write h d) f ≡ list ss
      → (p : ℕ) × (read_of a h (made ss f) ≡ Ok (record { place = p; words = length d })) × StandsAt (made ss f) p h d
  reads_back h d c ss e =
      let t = (changed_by (write h d) c ss e).stands in
      read_held h d t.given t.ready (t.map h ∙ rw (eq-eqb h h refl))

  pub reads_none : (h : ℕ) (ss : List Store) → plan_of a (delete h) f ≡ list ss → read_of a h (made ss f) ≡ Err NotFound
  reads_none h ss e =
      let t = (changed_by (delete h) tt ss e).stands in
      let b = (listed (find_checks a f h) (delete_list a h f) ss e).0.1.1.1.0 in
      read_absent h t.given t.ready b (t.map h ∙ rw (eq-eqb h h refl))

  pub formatted : (ss : List Store) → plan_of a format f ≡ list ss → Holds a (made ss f) (λ u. None)
  unfolding map_of
  formatted ss e = rw (← (listed (format_checks a f) (format_list a f) ss e).1) (record { given = given_of (format_settled fit).given; ready = format_ready fit; map = λ u. rw (format_empty fit) })

  -- What a ready area's layout holds is what the map, reads and searches give. Its pages are as the layout writes them; and pages so written,
  -- with R blank and no handle live twice, are a ready area that holds just what was written.
  pub layout_of : ready a f ≡ true → (i : ℕ) → i < a.pages
      → (es : List Item) × (m : ℕ) × Goods es × (page a f i ≡ layout a.pages i es 0x7FFFFFFF m) × (items (page a f i) ≡ es) × (stop (page a f i) ≡ 2 + length (written es))
  layout_of r i h = sealed_layout (stands_settled (stands r)).0 i h

  pub of_layout : (es : ℕ → List Item) (m : ℕ → ℕ) → ((i : ℕ) → i < a.pages → Goods (es i))
      → ((i : ℕ) → i < a.pages → page a f i ≡ layout a.pages i (es i) 0x7FFFFFFF (m i)) → page a f (R a) ≡ blanks a.words
      → twice (laid a es a.pages 0) ≡ false → (ready a f ≡ true) × (entries a f ≡ laid a es a.pages 0)
  of_layout es m gs is sp t =
      let w = laid_settled fit es m gs (λ i h. is i h ∙ sym (image_layout a.pages i (es i) seal (m i))) sp in
      (settled_ready w.0 (rw w.1 t), w.1)

  -- And an undamaged area is one whose pages are sealed or torn as the layout has them, but for the one that R names if it is committed; no
  -- other R is undamaged.
  pub undamaged_layout : damaged a f ≡ false → (o : Option ℕ) × RIs a.pages (page a f (R a)) o × ((i : ℕ) → i < a.pages → o ≢ Some i → PageIs a.pages i (page a f i))
  undamaged_layout d = undamaged_pages_are (undamaged d)

  pub layout_undamaged : (o : Option ℕ) → RIs a.pages (page a f (R a)) o → ((i : ℕ) → i < a.pages → o ≢ Some i → PageIs a.pages i (page a f i)) → damaged a f ≡ false
  layout_undamaged o r p = pages_undamaged fit r p

  pub map_read : ready a f ≡ true → (h : ℕ) (d : List ℕ) → map_of a f h ≡ Some d
      → (p : ℕ) × (read_of a h f ≡ Ok (record { place = p; words = length d })) × StandsAt f p h d
  map_read r h d e = read_held h d fit r e

  pub map_unread : ready a f ≡ true → (h : ℕ) → 1 ≤ h → h ≤ 0x7EFF → map_of a f h ≡ None → read_of a h f ≡ Err NotFound
  map_unread r h l k e = read_absent h fit r (legal_handle h l k) e

  pub read_map : (h p n : ℕ) → read_of a h f ≡ Ok (record { place = p; words = n }) → (map_of a f h ≡ Some (take n (drop (suc p) f))) × StandsAt f p h (take n (drop (suc p) f))
  read_map h p n e = held_read h p n fit e

  pub search_map : (mask pattern place q : ℕ) → search_of a mask pattern place f ≡ Ok q
      → (h : ℕ) × (d : List ℕ) × (place < q) × StandsAt f q h d × (map_of a f h ≡ Some d) × (is_live h ≡ true) × (eqb (bit_and h mask) (bit_and pattern mask) ≡ true)
      × (bad_place a f q ≡ false)
  search_map mask pattern place q e = search_yields mask pattern place q fit e

  pub search_all : (mask pattern place h p n : ℕ) → bad_place a f place ≡ false → read_of a h f ≡ Ok (record { place = p; words = n })
      → eqb (bit_and h mask) (bit_and pattern mask) ≡ true → place < p → (q : ℕ) × (search_of a mask pattern place f ≡ Ok q) × (q ≤ p)
  search_all mask pattern place h p n b r e l = search_skips_none mask pattern place h p n fit b r e l

  pub search_places : (place : ℕ) → bad_place a f place ≡ false
      → (place ≡ 0) ⊎ ((pre : List Entry) × (e : Entry) × (suf : List Entry) × (entries a f ≡ pre ++ e ∷ suf) × (e.place ≡ place))
  search_places place q = place_entry a f place q

  pub places_searched : (pre : List Entry) (e : Entry) (suf : List Entry) → entries a f ≡ pre ++ e ∷ suf → bad_place a f e.place ≡ false
  places_searched pre e suf q = entry_place a f pre e suf q

  pub search_one : (h p n : ℕ) → read_of a h f ≡ Ok (record { place = p; words = n }) → search_of a 0xFFFF h 0 f ≡ Ok p
  search_one h p n e = search_read h p n fit e

  -- ---- 5. Recovery of an undamaged area ends ready; cut at any store and made anew it ends in the very same flash, word for word, however
  -- often it is cut. Each handle keeps its last live entry: in the page that a committed R names those of R, in a torn page all but the last.
  -- With no R committed and nothing torn or double the map is unchanged.
  pub recover_plan : damaged a f ≡ false → plan_of a recover f ≡ list (recover_list a f)
  recover_plan d = recover_planned (undamaged d)

  pub ends_ready : damaged a f ≡ false → ready a (recovered a f) ≡ true
  ends_ready d = recover_ready a f (undamaged d)

  pub taken_up_again : damaged a f ≡ false → (k : ℕ)
      → (damaged a (made_first k (recover_list a f) f) ≡ false) × (recovered a (made_first k (recover_list a f) f) ≡ recovered a f)
  taken_up_again d k = let r = recover_resumes a in ((r.keeps f (undamaged d) k).sound, r.again f (undamaged d) k)

  pub any_cuts : damaged a f ≡ false → (g : List ℕ) → Recovers a f g → g ≡ recovered a f
  any_cuts d g t = recovers_ends (undamaged d) t

  pub keeps : damaged a f ≡ false → (u : ℕ) → map_of a (recovered a f) u ≡ data_of (last_live u (kept a f))
  unfolding map_of
  keeps d u = ap data_of (recovered_keeps f (undamaged d) u)

  pub loses_nothing : damaged a f ≡ false → ((i : ℕ) → recovery a f ≢ Committed i) → ((i : ℕ) → i < a.pages → kind a f i ≡ Sealed)
      → twice (entries a f) ≡ false → (u : ℕ) → map_of a (recovered a f) u ≡ map_of a f u
  unfolding map_of
  loses_nothing d c s t u = keeps d u ∙ ap data_of (ap (last_live u) (plain_kept a f c s) ∙ sym (once_last u (entries a f) t))

  -- ---- 6. A write or a delete on a ready area with power for k stores, whatever k, leaves an undamaged area; then recoveries, each with any
  -- power and the last one not cut: the area is ready, and the map is the one from before or the one from after.
  pub never_damaged : ready a f ≡ true → (r : Request) → Change r → (k : ℕ) → damaged a (run a r k f).flash ≡ false
  never_damaged e r c k = (run_safe (stands e) r c k).undamaged.sound

  pub before_or_after : ready a f ≡ true → (r : Request) → Change r → (k : ℕ) (g : List ℕ) → Recovers a (run a r k f).flash g
      → Holds a g (map_of a f) ⊎ Holds a g (changed r (map_of a f))
  before_or_after e r c k g t =
      let w = run_safe (stands e) r c k in
      let q = recovers_ends w.undamaged t in
      ⊎_elim (λ x. inl (rw q (so_holds x))) (λ x. inr (rw q (so_holds x))) w.ends

  -- ---- 7. Demand 3. Requests of legal handle and length, their new words and all live ones within the quota, each carried through with any
  -- cuts: the area is ready, the map is the starting one with all changes made, and each answers DONE, or NOTFOUND for a delete.
  pub all_made : ready a f ≡ true → (rs : List Request) → ProperAll rs → WithinQuota a (live_words (entries a f) + new_words_all rs)
      → (xs : List Answer) (g : List ℕ) → CarriedAll a rs f xs g → Holds a g (changed_all rs (map_of a f)) × FineAll rs xs
  all_made e rs p q xs g c = let w = carried_all a rs (map_of a f) (live_words (entries a f)) f p (stands e) q xs g c in (so_holds w.0, w.1)

  -- On handles that all differ the map is the same in any order.
  pub any_order : ready a f ≡ true → (rs qs : List Request) → Permᴰ rs qs → ProperAll rs → AllDiffer rs
      → WithinQuota a (live_words (entries a f) + new_words_all rs) → (xs : List Answer) (g : List ℕ) → CarriedAll a qs f xs g
      → Holds a g (changed_all rs (map_of a f)) × FineAll qs xs
  any_order e rs qs t p o q xs g c = let w = reordered a rs qs t (map_of a f) (live_words (entries a f)) f p o (stands e) q xs g c in (so_holds w.0, w.1)

  -- Of two requests: both orders end in the same map, the starting one with both changes made.
  pub either_order : ready a f ≡ true → (r q : Request) → Proper r → Proper q → handle_in r ≢ handle_in q
      → WithinQuota a (live_words (entries a f) + (new_words r + new_words q))
      → (xs ys : List Answer) (g k : List ℕ) → CarriedAll a (r ∷ (q ∷ [])) f xs g → CarriedAll a (q ∷ (r ∷ [])) f ys k
      → Holds a g (changed q (changed r (map_of a f))) × Holds a k (changed q (changed r (map_of a f))) × FineAll (r ∷ (q ∷ [])) xs × FineAll (q ∷ (r ∷ [])) ys
  either_order e r q p o d l xs ys g k c b =
      let z : WithinQuota a (live_words (entries a f) + (new_words r + (new_words q + 0))) = omega arith in
      let differ : AllDiffer (r ∷ (q ∷ [])) = (((λ x. d (sym x)), tt), (tt, tt)) in
      let x = all_made e (r ∷ (q ∷ [])) (p, (o, tt)) z xs g c in
      let y = any_order e (r ∷ (q ∷ [])) (q ∷ (r ∷ [])) (Permᴰ.swap refl refl) (p, (o, tt)) differ z ys k b in
      (x.0, y.0, x.1, y.1)

  -- After each cut and full recovery, of the first request or of a later one, the map is the one from before that request or the one from
  -- after it; and with power enough the request then runs uncut.
  pub after_each_cut : ready a f ≡ true → (rs : List Request) → ProperAll rs → (r : Request) → Proper r
      → WithinQuota a (live_words (entries a f) + new_words_all rs + new_words r) → (xs : List Answer) (g h : List ℕ) → CarriedAll a rs f xs g → Tried a r g h
      → (Holds a h (changed_all rs (map_of a f)) ⊎ Holds a h (changed r (changed_all rs (map_of a f))))
      × ((s : ℕ) × ((k : ℕ) → s ≤ k → was_cut (run a r k h).answer ≡ false))
  after_each_cut e rs p r o q xs g h c t =
      let n = live_words (entries a f) + new_words_all rs in
      let w = (carried_all a rs (map_of a f) (live_words (entries a f)) f p (stands e) (omega arith) xs g c).0 in
      let l = tried a r (changed_all rs (map_of a f)) n g o (as_before w) h t in
      (go l, enough a r (changed_all rs (map_of a f)) n h o q l)
    where
      go : {m : Map} {n : ℕ} → Left a r m n h → Holds a h m ⊎ Holds a h (changed r m)
      go (as_before s) = inl (so_holds s)
      go (changed_already s c) = inr (so_holds s)
