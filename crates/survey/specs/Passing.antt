-- What a survey knows of the pages that it has passed: definitions and laws. Assumes nothing.
use Rattle.std.specs.Prelude.{◌≡◌, List, Bool, false, cond, ◌&&◌, ◌||◌, length, leb, Option, Some, None}
use Rattle.std.specs.Bool.{then_some}
use Rattle.std.specs.Option.{option_or}
use Rattle.std.proofs.Math.Path.{refl, ap}
use Rattle.std.proofs.Common.{sym, ◌∙◌, add-one, le-leb, Fits}
use Rattle.std.proofs.Math.Bool.{true, and-true, and_assoc}
use Prim.Native.Nat.{ℕ, suc, ◌+◌, ◌-◌, ◌*◌, ◌≤◌, ◌<◌}
use native.Mathlib.Omega.{arith}
use Rattle.std.proofs.lemmas.Bool.{lt-leb}
use Rattle.std.specs.Int.{w64}
use Rattle.rules.specs.declared.Area.{Area}
use Rattle.rules.specs.declared.Kind.{Kind}
use Rattle.rules.specs.Words.{words_of, open_words, longest, last_seal}
use Rattle.rules.specs.Walk.{stop, items, kind_of, is_sealed, is_sound}
use Rattle.rules.specs.Areas.{base, page, page_entries, entries_from, entries, every, recovery, names, sound_or_named, sealed_at, live_words}
use Rattle.rules.specs.Lists.{lowest, leaves_room, room_page, makes_room, compact_page}
use Rattle.rules.specs.Places.{Right, base_suc}
use Rattle.rules.specs.Laws.{live_append, live_anywhere}
use Rattle.pages.specs.Steps.{length_at}
use Rattle.entries.specs.Noting.{all_noted, any_handle, blank_map, nothing, kept, unseen}
use Rattle.entries.specs.declared.doubles.Seen.{Seen}
use Rattle.area.specs.Checks.{base_fits, end_fits}
use Rattle.survey.specs.declared.FoundPage.{FoundPage}
use Rattle.survey.specs.declared.Asked.{Asked}
use Rattle.survey.specs.declared.Summary.{Summary}
use Rattle.survey.specs.declared.Sought.{Sought}
use Rattle.survey.specs.declared.walk.Walk.{Walk}
use Rattle.survey.specs.Surveying.{found_page, view_of}
use Rattle.survey.specs.Walking.{or_if, or_none, or_or, Gathering, gathering_start, gathering_some, Standing, WalkedOn, Touring, Toured, touring_start, tour_inside, standing, touring_on, touring_end}

-- ---- the page that is found first
abbrev pub lower_of : Option FoundPage → Bool → ℕ → ℕ → Option FoundPage
lower_of o t i s = or_if o t (record { index = i; stop = s })

-- ---- of n pages those from i on are ahead
one_less : (n i : ℕ) → i < n → n - i ≡ suc (n - suc i)
one_less n i h = omega arith

all_left : (n : ℕ) → n - 0 ≡ n
all_left n = omega arith

none_left : (n i : ℕ) → n ≤ i → n - i ≡ 0
none_left n i h = omega arith

-- whether all pass a test, b saying so of those before i
pub record Testing (t : ℕ → Bool) (n i : ℕ) (b : Bool) : Type 0 where
  pub same : b && every t (n - i) i ≡ every t n 0

testing_start : (t : ℕ → Bool) (n : ℕ) → Testing t n 0 true
testing_start t n = record { same = rw (all_left n) }

testing_on : {t : ℕ → Bool} {n i : ℕ} {b c : Bool} → Testing t n i b → i < n → c ≡ t i → Testing t n (suc i) (b && c)
testing_on {t} {n} {i} {b} {c} s h e = record { same = rw e (and_assoc b (t i) (every t (n - suc i) (suc i)) ∙ rw (one_less n i h) at s.same) }

testing_end : {t : ℕ → Bool} {n i : ℕ} {b : Bool} → Testing t n i b → n ≤ i → b ≡ every t n 0
testing_end {t} {n} {i} {b} s h = sym (and-true b) ∙ rw (none_left n i h) at s.same

-- the lowest that passes, o being the one before i
pub record Seeking (a : Area) (f : List ℕ) (t : ℕ → Bool) (i : ℕ) (o : Option FoundPage) : Type 0 where
  pub same : option_or o (found_page a f (lowest t (a.pages - i) i)) ≡ found_page a f (lowest t a.pages 0)

first_page : (a : Area) (f : List ℕ) (b : Bool) (i : ℕ) (o : Option ℕ) → option_or (then_some b (record { index = i; stop = stop (page a f i) })) (found_page a f o) ≡ found_page a f (cond b (Some i) o)
first_page a f true i o = refl
first_page a f false i o = refl

seeking_start : (a : Area) (f : List ℕ) (t : ℕ → Bool) → Seeking a f t 0 None
seeking_start a f t = record { same = rw (all_left a.pages) }

module _ {a : Area} {f : List ℕ} {t : ℕ → Bool} {i : ℕ} {o : Option FoundPage} (k : Seeking a f t i o) where
  seeking_on : {u : Option FoundPage} {b : Bool} {s : ℕ} → i < a.pages → b ≡ t i → s ≡ stop (page a f i) → u ≡ lower_of o b i s → Seeking a f t (suc i) u
  unfolding or_if
  seeking_on h e q w =
      let l = lowest t (a.pages - suc i) (suc i) in
      record { same = rw (w, e, q) (or_or o (then_some (t i) (record { index = i; stop = stop (page a f i) })) (found_page a f l) ∙ ap (option_or o) (first_page a f (t i) i l) ∙ rw (one_less a.pages i h) at k.same) }

  seeking_end : a.pages ≤ i → o ≡ found_page a f (lowest t a.pages 0)
  seeking_end h = sym (or_none o) ∙ rw (none_left a.pages i h) at k.same

-- the live words, sum being those before i
pub record Summing (a : Area) (f : List ℕ) (i sum : ℕ) : Type 0 where
  pub same : sum + live_words (entries_from a f (a.pages - i) i) ≡ live_words (entries a f)
  pub below : sum ≤ base a i

summing_start : (a : Area) (f : List ℕ) → Summing a f 0 0
unfolding entries
summing_start a f = record { same = rw (all_left a.pages) (omega arith); below = omega arith }

module _ {a : Area} {f : List ℕ} {i sum : ℕ} (s : Summing a f i sum) where
  summing_on : {m : ℕ} → i < a.pages → m ≡ live_words (page_entries a f i) → m ≤ a.words → Summing a f (suc i) (sum + m)
  summing_on {m} h e w =
      let b = s.below in
      let k = rw (one_less a.pages i h) at s.same in
      record {
        same = omega (arith, live_append (page_entries a f i) (entries_from a f (a.pages - suc i) (suc i)));
        below = omega (arith, base_suc a i);
      }

  sum_fits : (m : ℕ) → Right a f → i < a.pages → m ≤ a.words → Fits w64 (sum + m)
  unfolding base
  sum_fits m r h w =
      let b = s.below in
      let t = (end_fits i r (omega arith)).fits in
      record { fits = omega arith }

  summing_end : a.pages ≤ i → sum ≡ live_words (entries a f)
  summing_end h = let k = rw (none_left a.pages i h) at s.same in omega arith

-- ---- what is known with one page more
unfoldable pub summary_on : Summary → Asked → ℕ → Walk → Kind → Summary
summary_on b q i w k =
    record {
      sound = b.sound && (names q.recovery i || is_sound k);
      sealed = b.sealed && is_sealed k;
      entry = w.found;
      live = b.live + w.live;
      compact = lower_of b.compact (leb (w.live + q.needed) (open_words (words_of q.size))) i w.stop;
    }

pub summary_on_is : (b : Summary) (q : Asked) (i : ℕ) (w : Walk) {k t : Kind} {x y z : Bool} {c : Option FoundPage} {d : ℕ} → k ≡ t → x ≡ names q.recovery i → y ≡ is_sound k → z ≡ is_sealed k
    → d ≡ open_words (words_of q.size) → c ≡ lower_of b.compact (leb (w.live + q.needed) d) i w.stop
    → record { sound = b.sound && (x || y); sealed = b.sealed && z; entry = w.found; live = b.live + w.live; compact = c } ≡ summary_on b q i w t
unfolding summary_on
summary_on_is b q i w e x y z d c = rw (c, d, x, y, z, e)

pub ruleset summaries = (summary_on_is)

-- all of that can be counted
pub record Counted (b : Summary) (w : Walk) : Type 0 where
  pub live : w.live ≤ 1024
  pub all : Fits w64 (b.live + w.live)

-- ---- the pages before i were passed
-- what is asked is of the area's pages and of R
pub record Fitting (a : Area) (f : List ℕ) (q : Asked) : Type 0 where
  pub size : words_of q.size ≡ a.words
  pub recovery : q.recovery ≡ recovery a f
  pub needed : q.needed ≤ longest

pub record Passing (a : Area) (f : List ℕ) (q : Asked) (i : ℕ) (m : Seen) (r : Summary) : Type 0 where
  pub sound : Testing (sound_or_named a f) a.pages i r.sound
  pub sealed : Testing (sealed_at a f) a.pages i r.sealed
  pub entries : Gathering q.handle (entries a f) blank_map None nothing (entries_from a f (a.pages - i) i) m.map r.entry (kept m)
  pub live : Summing a f i r.live
  pub compact : Seeking a f (makes_room a f q.needed) i r.compact

-- ---- a page is passed
module _ {a : Area} {f : List ℕ} {q : Asked} {i : ℕ} {m : Seen} {r : Summary} (s : Passing a f q i m r) where
  module _ (g : Right a f) (l : i < a.pages) where
    pub place_fits : Fits w64 (i * a.words)
    place_fits = base_fits i g (omega arith)

    pub part_fits : (p : List ℕ) → length p ≡ a.words → Fits w64 (i * a.words + length p)
    part_fits p e = rw e (end_fits i g (omega arith))

  pub part_long : (p : List ℕ) → Right a f → length p ≡ a.words → 2 ≤ length p
  part_long p g e = let w = g.wide in omega arith

  module _ {p : List ℕ} {w : Walk} {k : Seen} (t : Toured p (i * a.words) q.handle m r.entry w k) (e : length p ≡ a.words) where
    pub can_count : Right a f → i < a.pages → Counted r w
    can_count g l =
        let n = g.narrow in
        let c = t.below in
        let d : w.live ≤ a.words = omega arith in
        record { live = omega arith; all = sum_fits s.live w.live g l d }

    module _ (l : i < a.pages) (y : p ≡ page a f i) where
      stop_at : w.stop ≡ stop (page a f i)
      stop_at = t.stop ∙ ap stop y

      live_at : w.live ≡ live_words (page_entries a f i)
      live_at = t.live ∙ rw y (live_anywhere 2 (base a i + 2) (items (page a f i)))

      entries_on : Gathering q.handle (entries a f) blank_map None nothing (entries_from a f (a.pages - suc i) (suc i)) k.map w.found (kept k)
      unfolding base
      entries_on = gathering_some (page_entries a f i) (rw (one_less a.pages i l) at s.entries) (rw y at t.map) (rw y at t.found) (rw y at t.seen)

      live_on : Summing a f (suc i) (r.live + w.live)
      live_on = let c = t.below in summing_on s.live l live_at (omega arith)

      pub passing_on : {u : Summary} → Fitting a f q → u ≡ summary_on r q i w (kind_of a.pages i p) → Passing a f q (i + 1) k u
      unfolding makes_room summary_on
      passing_on x v = rw (add-one i, v) (record {
        sound = testing_on s.sound l (rw (x.recovery, y));
        sealed = testing_on s.sealed l (rw y);
        entries = entries_on;
        live = live_on;
        compact = seeking_on s.compact l (rw (x.size, live_at)) stop_at refl;
      })

passing_start : {a : Area} {f : List ℕ} {q : Asked}
    → Passing a f q 0 unseen (record { sound = true; sealed = true; entry = None; live = 0; compact = None })
unfolding entries
passing_start {a} {f} {q} =
    record {
      sound = testing_start (sound_or_named a f) a.pages;
      sealed = testing_start (sealed_at a f) a.pages;
      entries = rw (all_left a.pages) (gathering_start q.handle (entries_from a f a.pages 0) blank_map None nothing);
      live = summing_start a f;
      compact = seeking_start a f (makes_room a f q.needed);
    }

-- ---- all were
pub record AllPassed (a : Area) (f : List ℕ) (h n : ℕ) (m : Seen) (r : Sought) : Type 0 where
  pub sound : r.summary.sound ≡ every (sound_or_named a f) a.pages 0
  pub sealed : r.summary.sealed ≡ every (sealed_at a f) a.pages 0
  pub seen : kept m ≡ all_noted any_handle blank_map nothing (entries a f)
  pub view : record { entry = r.summary.entry; live = r.summary.live; room = r.room; compact = r.summary.compact } ≡ view_of a f h n

pub passing_end : {a : Area} {f : List ℕ} {q : Asked} {i : ℕ} {m : Seen} {r : Summary} {o : Option FoundPage} → Passing a f q i m r → a.pages ≤ i
    → o ≡ found_page a f (room_page a f q.needed) → AllPassed a f q.handle q.needed m (record { room = o; passed = i; summary = r })
unfolding view_of compact_page
passing_end {a} {f} {q} {i} {m} {r} s l w =
    let z = none_left a.pages i l in
    let e = s.entries in
    record {
      sound = testing_end s.sound l;
      sealed = testing_end s.sealed l;
      seen = rw z at e.seen;
      view = rw (sym (or_none r.entry) ∙ rw z at e.found, summing_end s.live l, w, seeking_end s.compact l);
    }

pub ruleset passes = (passing_end, place_fits, part_fits, part_long, can_count, passing_on)

-- ---- the pages before i were passed, and none of them has room
pub record Roomless (a : Area) (f : List ℕ) (q : Asked) (i : ℕ) (m : Seen) (r : Summary) : Type 0 where
  pub passing : Passing a f q i m r
  pub room : Seeking a f (leaves_room a f q.needed) i None

-- the lowest that has room was sought
pub record RoomSought (a : Area) (f : List ℕ) (q : Asked) (m : Seen) (r : Sought) : Type 0 where
  pub passing : Passing a f q r.passed m r.summary
  pub room : r.room ≡ found_page a f (room_page a f q.needed)

pub roomless_start : {a : Area} {f : List ℕ} {q : Asked} {m : Seen} → m ≡ unseen
    → Roomless a f q 0 m (record { sound = true; sealed = true; entry = None; live = 0; compact = None })
roomless_start {a} {f} {q} e = rw e (record { passing = passing_start; room = seeking_start a f (leaves_room a f q.needed) })

module _ {a : Area} {f : List ℕ} {q : Asked} {i : ℕ} {m : Seen} {r : Summary} (s : Roomless a f q i m r) where
  pub room_none : a.pages ≤ i → RoomSought a f q m (record { room = None; passed = i; summary = r })
  unfolding room_page
  room_none l = record { passing = s.passing; room = seeking_end s.room l }

-- page i, which is p, is walked, and w and k are what its walk has come to; d is the last place of a seal that leaves the room for an entry
pub record Entered (a : Area) (f : List ℕ) (q : Asked) (d i : ℕ) (m : Seen) (r : Summary) (p : List ℕ) (w : Walk) (k : Seen) : Type 0 where
  pub right : Right a f
  pub fitting : Fitting a f q
  pub last : d ≡ last_seal (words_of q.size)
  pub before : Roomless a f q i m r
  pub inside : i < a.pages
  pub part : p ≡ page a f i
  pub long : length p ≡ a.words
  pub tour : Touring p (i * a.words) q.handle m r.entry w k

pub page_fits : {a : Area} {f : List ℕ} {q : Asked} {i : ℕ} {m : Seen} {r : Summary} → Roomless a f q i m r → Right a f → i < a.pages → Fits w64 (i * a.words)
page_fits s g l = place_fits s.passing g l

pub entered : {a : Area} {f : List ℕ} {q : Asked} {d i : ℕ} {m : Seen} {r : Summary} {p : List ℕ} → Roomless a f q i m r → i < a.pages → p ≡ page a f i → length p ≡ a.words → Right a f
    → Fitting a f q → d ≡ last_seal (words_of q.size) → Entered a f q d i m r p (record { stop = 2; live = 0; found = r.entry }) m
entered s l y j g x o =
    let n = g.wide in
    record { right = g; fitting = x; last = o; before = s; inside = l; part = y; long = j; tour = touring_start (omega arith) }

module _ {a : Area} {f : List ℕ} {q : Asked} {d i : ℕ} {m : Seen} {r : Summary} {p : List ℕ} {w : Walk} {k : Seen} (s : Entered a f q d i m r p w k) where
  pub stop_fits : Fits w64 (w.stop + q.needed)
  stop_fits =
      let n = s.right.narrow in
      let l = s.fitting.needed in
      let j = s.long in
      let u = tour_inside s.tour in
      record { fits = omega arith }

  module _ {n : ℕ} (e : n ≡ length_at p w.stop) where
    pub entry_standing : (n ≡ 0 → ⊥) → Standing p (i * a.words) w n
    entry_standing z = standing s.tour e z (part_fits s.before.passing s.right s.inside p s.long)

    pub entered_on : {v : Walk} {h : Seen} → (n ≡ 0 → ⊥) → WalkedOn p (i * a.words) q.handle k w n v h → Entered a f q d i m r p v h
    entered_on z x =
        record {
          right = s.right;
          fitting = s.fitting;
          last = s.last;
          before = s.before;
          inside = s.inside;
          part = s.part;
          long = s.long;
          tour = touring_on s.tour e z x;
        }

    module _ (z : n ≡ 0) where
      toured : Toured p (i * a.words) q.handle m r.entry w k
      toured = touring_end s.tour e z

      pub page_stop : w.stop ≡ stop p
      page_stop = toured.stop

      pub page_counted : Counted r w
      page_counted = can_count s.before.passing toured s.long s.right s.inside

      module _ {u : Summary} (v : u ≡ summary_on r q i w (kind_of a.pages i p)) where
        passing_with : Passing a f q (i + 1) k u
        passing_with = passing_on s.before.passing toured s.long s.inside s.part s.fitting v

        seeking_with : (h : Bool) → leb (w.stop + q.needed) d ≡ h → Seeking a f (leaves_room a f q.needed) (suc i) (then_some h (record { index = i; stop = w.stop }))
        unfolding leaves_room or_if
        seeking_with h g =
            let y : w.stop ≡ stop (page a f i) = page_stop ∙ ap stop s.part in
            seeking_on s.before.room s.inside (sym g ∙ rw (s.last, s.fitting.size, y)) y refl

        pub room_on : d < w.stop + q.needed → Roomless a f q (i + 1) k u
        room_on g = record { passing = passing_with; room = rw (add-one i) (seeking_with false (lt-leb (w.stop + q.needed) d g)) }

        pub room_here : w.stop + q.needed ≤ d → RoomSought a f q k (record { room = Some (record { index = i; stop = w.stop }); passed = i + 1; summary = u })
        unfolding room_page
        room_here g = record { passing = passing_with; room = (seeking_with true (le-leb (w.stop + q.needed) d g)).same }

pub ruleset seeks = (roomless_start, room_none, page_fits, entered, entry_standing, stop_fits, entered_on, page_stop, page_counted, room_on, room_here)
