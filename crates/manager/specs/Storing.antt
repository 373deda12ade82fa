-- What format, recover, write and delete promise; laws: what they answer and leave, from what the functions below have found and stored;
-- and that the promise allows one outcome. Assumes nothing.
use Rattle.std.specs.Prelude.{◌≡◌, List, [], ◌∷◌, Bool, true, false, cond, length, ltb, Option, Some, None, Result, Ok, Err, is_none}
use Rattle.std.proofs.Math.Path.{refl}
use Rattle.std.proofs.Common.{ap, sym, ◌∙◌, arith, le-leb, le-ltb, lt-ltb}
use Prim.Native.Nat.{ℕ, min, ◌+◌, ◌-◌, ◌≤◌, ◌<◌, zero-le}
use Rattle.flash.specs.declared.Power.{Power}
use Rattle.flash.specs.Stores.{Store, put, Ran}
use Rattle.flash.specs.Laws.{settled, first_nil, ran_length}
use Rattle.rules.specs.declared.Area.{Area}
use Rattle.rules.specs.declared.Refusal.{Refusal}
use Rattle.rules.specs.declared.Refusal.TheVariants.{Geometry, BadHandle, BadLength, NotFound, NoRoom}
use Rattle.rules.specs.Words.{longest, size_of}
use Rattle.rules.specs.Walk.{entry_length}
use Rattle.rules.specs.Areas.{Entry, entries, find, live_words}
use Rattle.rules.specs.Refusals.{is_listed, wrong_geometry, bad_handle, bad_length, holds, area_quota, no_room, checked, recover_checks, Plan, refuse, list, Outcome, outcome_of, outcome, Answer}
use Rattle.rules.specs.Lists.{format_list, bare_if, room_page, append_to, write_list, recover_list, drop_doubles, delete_list, Request, format, recover, write, delete, plan_of}
use Rattle.rules.specs.Laws.{answer_of, ran_outcome, ran_left, Passed, passed_checked}
use Rattle.rules.specs.Places.{Right, right_of}
use Rattle.demands.specs.Finishing.{sealed_drops}
use Rattle.entries.specs.Ahead.{found_of, found_none, found_some}
use Rattle.stores.specs.Making.{bare_words, found_counted}
use Rattle.survey.specs.declared.View.{View}
use Rattle.survey.specs.declared.Sight.{Sight}
use Rattle.survey.specs.Surveying.{view_of, all_sealed, looked, surveyed}
use Rattle.survey.specs.Looking.{look_refused, unsealed_passed, unsealed_right, sealed_passed, sealed_right, sealed_is, sealed_windows}
use Rattle.survey.specs.Views.{survey_refused, survey_on, survey_right, survey_ready, survey_view, view_entry, view_live}
use Rattle.manager.specs.Holding.{last_word, has_words, entry_inside, has_holds}
use Rattle.rules.specs.declared.Found.{Found}
use Rattle.rules.specs.declared.Made.{Made}

-- ---- the promise
-- of a request r with power for k stores on the flash f: what is answered, x, and the flash that is left, g, are the outcome of its plan
pub record Answers (a : Area) (r : Request) (k : ℕ) (f : List ℕ) (x : Answer) (g : List ℕ) : Type 0 where
  pub answer : x ≡ (outcome (plan_of a r) k f).answer
  pub flash : g ≡ (outcome (plan_of a r) k f).flash

-- one outcome, and no other
pub answer_settles : {a : Area} {r : Request} {k : ℕ} {f : List ℕ} {x y : Answer} {g h : List ℕ} → Answers a r k f x g → Answers a r k f y h → (x ≡ y) × (g ≡ h)
answer_settles x y = (settled x.answer y.answer, settled x.flash y.flash)

-- ---- a plan and its outcome
answers : {x : Answer} {g : List ℕ} (a : Area) (r : Request) (k : ℕ) (f : List ℕ) (p : Plan) → plan_of a r f ≡ p → outcome_of p k f ≡ record { answer = x; flash = g } → Answers a r k f x g
answers a r k f p e c =
    let w = ap (λ (q : Plan). outcome_of q k f) e ∙ c in
    record { answer = sym (ap (λ (o : Outcome). o.answer) w); flash = sym (ap (λ (o : Outcome). o.flash) w) }

refuses : {n : Refusal} (a : Area) (r : Request) (k : ℕ) (f : List ℕ) → plan_of a r f ≡ refuse n → Answers a r k f (Err n) f
refuses {n} a r k f e = answers a r k f (refuse n) e refl

abbrev pub full : ℕ → Power
full k = record { left = k; cut = false }

ran : {p q : Power} {f g : List ℕ} {x : Answer} (k : ℕ) (ss : List Store) → Ran ss p f q g → p ≡ full k → x ≡ answer_of k q → outcome_of (list ss) k f ≡ record { answer = x; flash = g }
ran k ss r e d = ran_outcome ss k (rw e at r) ∙ rw d

pub left_less : {ss : List Store} {p q : Power} {f g : List ℕ} (k : ℕ) → Ran ss p f q g → p ≡ full k → q.left ≤ k
left_less k r e = ran_left (rw e at r)

pub answer_cut : (k : ℕ) (q : Power) → q.cut ≡ true → Ok (Made.Cut (k - q.left)) ≡ answer_of k q
answer_cut k q e = rw e

pub answer_done : (k : ℕ) (q : Power) → q.cut ≡ false → Ok (Made.Done (k - q.left)) ≡ answer_of k q
answer_done k q e = rw e

pub ruleset powers = (left_less, answer_cut, answer_done)

-- ---- format
module _ {b : Bool} (a : Area) (k : ℕ) (f : List ℕ) (e : b ≡ wrong_geometry a f) where
  pub format_refused : b ≡ true → Answers a format k f (Err Geometry) f
  format_refused t = refuses a format k f (rw (← e, t))

  module _ (t : b ≡ false) where
    pub format_right : Right a f
    format_right = right_of a f (sym e ∙ t)

    pub format_ran : {p q : Power} {g : List ℕ} {x : Answer} → Ran (format_list a f) p f q g → p ≡ full k → x ≡ answer_of k q → Answers a format k f x g
    format_ran r d y = answers a format k f (list (format_list a f)) (rw (← e, t)) (ran k (format_list a f) r d y)

pub ruleset formats = (format_refused, format_right, format_ran, left_less, ran_length)

-- ---- recover
module _ {l : Result (Option Sight) Refusal} (a : Area) (k : ℕ) (f : List ℕ) (h n : ℕ) (e : l ≡ looked a f h n) where
  pub recover_refused : {why : Refusal} → l ≡ Err why → Answers a recover k f (Err why) f
  recover_refused q = refuses a recover k f (sym (look_refused a f h n e refuse [] (list (recover_list a f)) q))

  recover_ran : {p q : Power} {g : List ℕ} {x : Answer} → Passed (recover_checks a f) → Ran (recover_list a f) p f q g → p ≡ full k → x ≡ answer_of k q → Answers a recover k f x g
  recover_ran t r d y = answers a recover k f (list (recover_list a f)) (passed_checked refuse (recover_checks a f) (list (recover_list a f)) t) (ran k (recover_list a f) r d y)

  pub recover_unsealed : {p q : Power} {g : List ℕ} {x : Answer} → l ≡ Ok None → Ran (recover_list a f) p f q g → p ≡ full k → x ≡ answer_of k q → Answers a recover k f x g
  recover_unsealed u r d y = recover_ran (unsealed_passed a f h n e u) r d y

  pub recover_sealed : {s : Sight} {p q : Power} {g : List ℕ} {x : Answer} → l ≡ Ok (Some s) → Ran (drop_doubles a f) p f q g → p ≡ full k → x ≡ answer_of k q → Answers a recover k f x g
  unfolding all_sealed
  recover_sealed {p = p} {q} {g} u r d y =
      let t : Ran (recover_list a f) p f q g = rw (sealed_drops a f (sealed_is a f h n e u)) r in
      recover_ran (sealed_passed a f h n e u) t d y

pub ruleset recoveries = (recover_refused, recover_unsealed, recover_sealed, unsealed_right, sealed_right, sealed_windows, left_less, ran_length)

-- ---- delete
module _ {s : Result View Refusal} (a : Area) (h k : ℕ) (f : List ℕ) (n : ℕ) (e : s ≡ surveyed a f h n) where
  abbrev entry : Option Entry
  entry = find h (entries a f)

  abbrev own : List (Bool × Refusal)
  own = (bad_handle h, BadHandle) ∷ (is_none entry, NotFound) ∷ []

  pub delete_refused : {why : Refusal} → s ≡ Err why → Answers a (delete h) k f (Err why) f
  delete_refused q = refuses a (delete h) k f (sym (survey_refused a f h n e refuse own (list (delete_list a h f)) q))

  module _ {v : View} {b : Bool} (q : s ≡ Ok v) (d : b ≡ bad_handle h) where
    delete_by : plan_of a (delete h) f ≡ cond b (refuse BadHandle) (cond (is_none entry) (refuse NotFound) (list (delete_list a h f)))
    delete_by = rw d (survey_on a f h n e q refuse own (list (delete_list a h f)))

    pub delete_bad_handle : b ≡ true → Answers a (delete h) k f (Err BadHandle) f
    delete_bad_handle t = refuses a (delete h) k f (rw t at delete_by)

    module _ (t : b ≡ false) where
      found : v.entry ≡ found_of entry
      found = view_entry a f h n (survey_view a f h n e q)

      pub delete_none : v.entry ≡ None → Answers a (delete h) k f (Err NotFound) f
      delete_none g = refuses a (delete h) k f (delete_by ∙ rw (t, ap is_none (found_none entry found g)))

      module _ {m : Found} (g : v.entry ≡ Some m) where
        pub delete_ran : {p q : Power} {u : List ℕ} {x : Answer} → Ran (put m.place (m.words + 1) ∷ []) p f q u → p ≡ full k → x ≡ answer_of k q → Answers a (delete h) k f x u
        delete_ran r o y =
            let w = found_some entry found g in
            let ss = put m.place (m.words + 1) ∷ [] in
            answers a (delete h) k f (list ss) (delete_by ∙ rw (t, ap is_none w.1, ap bare_if w.1, w.2, w.3)) (ran k ss r o y)

-- no entry has more words than can be counted
pub entry_counted : {s : Result View Refusal} {v : View} {m : Found} (a : Area) (f : List ℕ) (h n : ℕ) → s ≡ surveyed a f h n → s ≡ Ok v → v.entry ≡ Some m → m.words ≤ 262144
entry_counted a f h n e q g = bare_words g (found_counted h (view_entry a f h n (survey_view a f h n e q)) (survey_right a f h n e q))

pub ruleset deletions = (delete_refused, delete_bad_handle, delete_none, entry_counted, delete_ran, left_less, ran_length)

-- ---- write
-- what is left of its plan behind the checks before NOROOM, and its outcome
abbrev rest_plan : Area → ℕ → List ℕ → List ℕ → Plan
rest_plan a h d f = checked refuse ((no_room a f h d, NoRoom) ∷ []) (list (write_list a h d f))

pub record Rest (a : Area) (h : ℕ) (d : List ℕ) (k : ℕ) (f : List ℕ) (x : Answer) (g : List ℕ) : Type 0 where
  pub outcome : outcome_of (rest_plan a h d f) k f ≡ record { answer = x; flash = g }

rest_by : {x : Answer} {g : List ℕ} (a : Area) (h : ℕ) (d : List ℕ) (k : ℕ) (f : List ℕ) (p : Plan) → rest_plan a h d f ≡ p → outcome_of p k f ≡ record { answer = x; flash = g } → Rest a h d k f x g
rest_by a h d k f p e c = record { outcome = ap (λ (q : Plan). outcome_of q k f) e ∙ c }

module _ {v : View} {b : Bool} (a : Area) (h : ℕ) (d : List ℕ) (k : ℕ) (f : List ℕ) (w : Right a f) (c : v ≡ view_of a f h (entry_length d)) (e : b ≡ has_words f v.entry d) where
  held : b ≡ holds a f h d
  held = e ∙ has_holds a f h (view_entry a f h (entry_length d) c) w d

  pub rest_held : b ≡ true → Rest a h d k f (Ok (Made.Done 0)) f
  unfolding no_room
  rest_held t = rest_by a h d k f (list []) (rw (← held, t)) (rw (le-leb 0 k zero-le, first_nil k f))

  module _ {u : Bool} (t : b ≡ false) (o : u ≡ ltb (area_quota a) (v.live + (length d + 1))) where
    full_by : u ≡ ltb (area_quota a) (live_words (entries a f) + entry_length d)
    full_by = rw (view_live a f h (entry_length d) c) at o

    pub rest_full : u ≡ true → Rest a h d k f (Err NoRoom) f
    unfolding no_room
    rest_full q = rest_by a h d k f (refuse NoRoom) (rw (← held, t, ← full_by, q)) refl

    pub rest_ran : {p q : Power} {g : List ℕ} {x : Answer} → u ≡ false → Ran (append_to a h d (room_page a f (entry_length d)) f) p f q g → p ≡ full k → x ≡ answer_of k q
        → Rest a h d k f x g
    unfolding no_room
    rest_ran z r m y = let ss = append_to a h d (room_page a f (entry_length d)) f in rest_by a h d k f (list ss) (rw (← held, t, ← full_by, z)) (ran k ss r m y)

-- what it needs of the area
module _ {a : Area} {f : List ℕ} (w : Right a f) where
  pub right_listed : is_listed (size_of a.words) ≡ true
  right_listed = w.listed

  pub right_many : a.pages ≤ 255
  right_many = w.many

  pub rest_inside : {v : View} (h n : ℕ) → v ≡ view_of a f h n → last_word v.entry < length f
  rest_inside h n c = entry_inside a f h (view_entry a f h n c) w

pub ruleset rests = (rest_held, rest_full, rest_ran, right_listed, right_many, rest_inside, left_less, ran_length)

module _ {s : Result View Refusal} (a : Area) (h : ℕ) (d : List ℕ) (k : ℕ) (f : List ℕ) (n : ℕ) (e : s ≡ surveyed a f h n) where
  abbrev its : List (Bool × Refusal)
  its = (bad_handle h, BadHandle) ∷ (bad_length d, BadLength) ∷ (no_room a f h d, NoRoom) ∷ []

  pub write_refused : {why : Refusal} → s ≡ Err why → Answers a (write h d) k f (Err why) f
  write_refused q = refuses a (write h d) k f (sym (survey_refused a f h n e refuse its (list (write_list a h d f)) q))

  module _ {v : View} {b : Bool} (q : s ≡ Ok v) (o : b ≡ bad_handle h) where
    write_by : plan_of a (write h d) f ≡ cond b (refuse BadHandle) (cond (bad_length d) (refuse BadLength) (rest_plan a h d f))
    write_by = rw o (survey_on a f h n e q refuse its (list (write_list a h d f)))

    pub write_bad_handle : b ≡ true → Answers a (write h d) k f (Err BadHandle) f
    write_bad_handle t = refuses a (write h d) k f (rw t at write_by)

    module _ (t : b ≡ false) where
      pub write_bad_length : 32 < length d → Answers a (write h d) k f (Err BadLength) f
      write_bad_length l = refuses a (write h d) k f (write_by ∙ rw (t, lt-ltb 32 (length d) l))

      pub write_rest : {x : Answer} {g : List ℕ} → length d ≤ 32 → Rest a h d k f x g → Answers a (write h d) k f x g
      write_rest l r = answers a (write h d) k f (rest_plan a h d f) (write_by ∙ rw (t, le-ltb 32 (length d) l)) r.outcome

pub write_view : {s : Result View Refusal} {v : View} {n : ℕ} (a : Area) (f : List ℕ) (h : ℕ) (d : List ℕ) → n ≡ min (entry_length d) longest → s ≡ surveyed a f h n → s ≡ Ok v → length d ≤ 32
    → v ≡ view_of a f h (entry_length d)
write_view {n = n} a f h d m e q l =
    let z : n ≡ entry_length d = omega arith in
    survey_view a f h n e q ∙ ap (view_of a f h) z

pub ruleset writes = (write_refused, write_bad_handle, write_bad_length, write_rest, write_view, survey_right, survey_ready)
