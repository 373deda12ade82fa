-- The three demands, of the functions themselves: what whoever calls format, recover, write, delete and read may rely on, from what they promise
-- (`Answers`, `Reads`) and the theorems of crate `demands`, whose `Terms` has the words `Given`, `Fair`, `Holds` and others. For every
-- power. Assumes nothing.
use Rattle.std.specs.Prelude.{◌≡◌, refl, List, [], ◌∷◌, Bool, true, false, cond, ◌⊎◌, ◌≢◌, ℕ, ◌+◌, ◌*◌, ◌≤◌, ◌<◌, length, take, leb, Some, None, Ok, Err}
use Rattle.std.proofs.Math.Path.{ap}
use Rattle.std.proofs.Common.{sym, subst, ◌∙◌, inl, inr, ⊎_elim, arith, mul-le-mul_right, le-leb, leb-true, eq-eqb, ne_eqb}
use Rattle.std.proofs.lemmas.Bool.{lt-leb}
use Rattle.flash.specs.Stores.{Words, Store, made, made_first}
use Rattle.flash.specs.Laws.{first_all}
use Rattle.rules.specs.declared.Area.{Area}
use Rattle.rules.specs.declared.Refusal.{Refusal}
use Rattle.rules.specs.declared.Refusal.TheVariants.{NotFound}
use Rattle.rules.specs.Areas.{entries, live_words, map_of, ready}
use Rattle.rules.specs.Refusals.{answer_stores, Plan, refuse, list, outcome_of, Answer, Reading}
use Rattle.rules.specs.Lists.{Request, format, recover, write, delete, plan_of}
use Rattle.rules.specs.Search.{read_of}
use Rattle.rules.specs.Laws.{stores_made}
use Rattle.rules.specs.Places.{right_of}
use Rattle.demands.specs.Terms.{Given, Fair, Typed, Change, Proper, ProperAll, handle_in, data_in, new_words, Map, changed, changed_all, WithinQuota, new_words_all, Holds, StandsAt, was_cut, run, Recovers, whole, then_again, Tried, untried, and_tried, Carried, uncut, CarriedAll, no_more, and_then, FineAll}
use Rattle.demands.specs.Demands.{no_bit_back, format_stores, delete_stores, write_stores, recover_stores, whole_change, formatted, reads_back, reads_none, map_read, map_unread, before_or_after, either_order, after_each_cut}
use Rattle.demands.specs.Runs.{usable}
use Rattle.manager.specs.Reading.{Reads}
use Rattle.manager.specs.Storing.{Answers}
use Rattle.rules.specs.declared.Made.{Made}

-- ---- Demand 1. A refusal makes no store and leaves every word as it found it.
refused_plan : (p : Plan) (k : ℕ) (f : List ℕ) (n : Refusal) → (outcome_of p k f).answer ≡ Err n → (outcome_of p k f).flash ≡ f
refused_plan (refuse m) k f n e = refl
refused_plan (list ss) k f n e = go (leb (length ss) k) refl
  where
    go : (b : Bool) → leb (length ss) k ≡ b → made_first k ss f ≡ f
    go true q = let z : Ok (Made.Done (length ss)) ≡ Err n = rw q at e in absurd (let y : ◌≡◌ {A = ℕ} 0 1 = cc in let w : ⊥ = omega arith in w)
    go false q = let z : Ok (Made.Cut k) ≡ Err n = rw q at e in absurd (let y : ◌≡◌ {A = ℕ} 0 1 = cc in let w : ⊥ = omega arith in w)

pub refused_unchanged : {a : Area} {r : Request} {k : ℕ} {f g : List ℕ} {n : Refusal} → Answers a r k f (Err n) g → g ≡ f
refused_unchanged {a} {r} {k} {f} {g} {n} c = c.flash ∙ refused_plan (plan_of a r f) k f n (sym c.answer)

-- ---- Demand 2. With power for k stores the flash is the starting flash with the first k stores of the rules' list made, or all of them; as
-- many are counted, and it is CUT just when the power is less than the list. No store asks a cleared bit back.
module _ {a : Area} {r : Request} {k : ℕ} {f g : List ℕ} {x : Answer} (c : Answers a r k f x g) (ss : List Store) (e : plan_of a r f ≡ list ss) where
  pub first_k : (g ≡ made (take k ss) f) × (answer_stores x ≡ length (take k ss))
  unfolding made_first
  first_k = (
    c.flash ∙ ap (λ (p : Plan). (outcome_of p k f).flash) e,
    ap answer_stores c.answer ∙ ap (λ (p : Plan). answer_stores (outcome_of p k f).answer) e ∙ stores_made ss k f,
  )

  by_list : x ≡ cond (leb (length ss) k) (Ok (Made.Done (length ss))) (Ok (Made.Cut k))
  by_list = c.answer ∙ ap (λ (p : Plan). (outcome_of p k f).answer) e

  pub done_or_cut : (length ss ≤ k → x ≡ Ok (Made.Done (length ss))) × (k < length ss → x ≡ Ok (Made.Cut k))
  done_or_cut = ((λ l. by_list ∙ rw (le-leb (length ss) k l)), (λ l. by_list ∙ rw (lt-leb (length ss) k l)))

  pub no_bit_asked_back : Given a f → Typed r → Fair a ss f
  no_bit_asked_back w t = no_bit_back w r t ss e

-- Power FFFFFFFF is enough for any list, so that what is cut can always be carried through.
not_cut_by : (p : Plan) (k : ℕ) (f : List ℕ) → ((ss : List Store) → p ≡ list ss → length ss ≤ k) → was_cut (outcome_of p k f).answer ≡ false
not_cut_by (refuse n) k f h = refl
not_cut_by (list ss) k f h = rw (le-leb (length ss) k (h ss refl))

module _ {a : Area} {f : List ℕ} (w : Given a f) where
  list_short : (r : Request) → Typed r → (ss : List Store) → plan_of a r f ≡ list ss → length ss ≤ 0xFFFFFFFF
  list_short format t ss e = let n = w.few_pages in omega (arith, format_stores w ss e)
  list_short recover t ss e =
      let n = w.few_pages in
      let m = (right_of a f (usable w).right).narrow in
      let p : a.pages * a.words ≤ 255 * a.words = mul-le-mul_right a.words n in
      omega (arith, recover_stores w ss e)
  list_short (write h d) t ss e = let m = (right_of a f (usable w).right).narrow in omega (arith, (write_stores w h d t ss e).1)
  list_short (delete h) t ss e = omega (arith, delete_stores w h ss e)

  pub power_enough : {r : Request} {g : List ℕ} {x : Answer} → Typed r → Answers a r 0xFFFFFFFF f x g → was_cut x ≡ false
  power_enough {r} t c = ap was_cut c.answer ∙ not_cut_by (plan_of a r f) 0xFFFFFFFF f (list_short r t)

-- ---- A change that was DONE is the map with that change made and no other: what is written reads back, what is deleted does not. A format
-- that was DONE is an empty map.
done_plan : (p : Plan) (k s : ℕ) (f : List ℕ) → (outcome_of p k f).answer ≡ Ok (Made.Done s) → (ss : List Store) × (p ≡ list ss) × ((outcome_of p k f).flash ≡ made ss f)
done_plan (refuse n) k s f e = absurd (let y : ◌≡◌ {A = ℕ} 0 1 = cc in let w : ⊥ = omega arith in w)
done_plan (list ss) k s f e = (ss, refl, go (leb (length ss) k) refl)
  where
    go : (b : Bool) → leb (length ss) k ≡ b → made_first k ss f ≡ made ss f
    go true q = first_all k ss f (leb-true (length ss) k q)
    go false q = let z : Ok (Made.Cut k) ≡ Ok (Made.Done s) = rw q at e in absurd (let y : ◌≡◌ {A = ℕ} 0 1 = cc in let w : ⊥ = omega arith in w)

module _ {a : Area} {k s : ℕ} {f g : List ℕ} (w : Given a f) where
  pub done_changed : {r : Request} → Change r → Answers a r k f (Ok (Made.Done s)) g → Holds a g (changed r (map_of a f))
  done_changed {r} q c =
      let l = done_plan (plan_of a r f) k s f (sym c.answer) in
      rw (c.flash ∙ l.2) (whole_change w r q l.0 l.1)

  pub formatted_empty : Answers a format k f (Ok (Made.Done s)) g → Holds a g (λ u. None)
  formatted_empty c =
      let l = done_plan (plan_of a format f) k s f (sym c.answer) in
      rw (c.flash ∙ l.2) (formatted w l.0 l.1)

  pub written_reads : {x : Reading} (h : ℕ) (d : List ℕ) → Words d → Answers a (write h d) k f (Ok (Made.Done s)) g → Reads a h g x
      → (p : ℕ) × (x ≡ Ok (record { place = p; words = length d })) × StandsAt g p h d
  written_reads h d q c r =
      let l = done_plan (plan_of a (write h d) f) k s f (sym c.answer) in
      let e : g ≡ made l.0 f = c.flash ∙ l.2 in
      let b = reads_back w h d q l.0 l.1 in
      (b.0, r ∙ ap (read_of a h) e ∙ b.1, rw e b.2)

  pub deleted_reads : {x : Reading} (h : ℕ) → Answers a (delete h) k f (Ok (Made.Done s)) g → Reads a h g x → x ≡ Err NotFound
  deleted_reads h c r =
      let l = done_plan (plan_of a (delete h) f) k s f (sym c.answer) in
      r ∙ ap (read_of a h) (c.flash ∙ l.2) ∙ reads_none w h l.0 l.1

-- What a map holds is what a read gives, of every handle.
module _ {a : Area} {m : Map} {g : List ℕ} {x : Reading} (s : Holds a g m) where
  pub held_reads : (h : ℕ) (d : List ℕ) → m h ≡ Some d → Reads a h g x → (p : ℕ) × (x ≡ Ok (record { place = p; words = length d })) × StandsAt g p h d
  held_reads h d e r = let b = map_read s.given s.ready h d (s.map h ∙ e) in (b.0, r ∙ b.1, b.2)

  pub absent_reads : (h : ℕ) → 1 ≤ h → h ≤ 0x7EFF → m h ≡ None → Reads a h g x → x ≡ Err NotFound
  absent_reads h l u e r = r ∙ map_unread s.given s.ready h l u (s.map h ∙ e)

-- ---- Demand 3. Recoveries, each with any power, and at last one that is not cut.
pub data Recovered (a : Area) : List ℕ → List ℕ → Type 0 where
  at_last : {k : ℕ} {f g : List ℕ} {x : Answer} → Answers a recover k f x g → was_cut x ≡ false → Recovered a f g
  once_more : {k : ℕ} {f g h : List ℕ} {x : Answer} → Answers a recover k f x g → Recovered a g h → Recovered a f h

recovers : {a : Area} {f g : List ℕ} → Recovered a f g → Recovers a f g
recovers {a} {f} (at_last {k} c u) = subst (λ (l : List ℕ). Recovers a f l) (sym c.flash) (whole k (ap was_cut (sym c.answer) ∙ u))
recovers {a} {f} (once_more {k} {h = h} c t) = then_again k (subst (λ (l : List ℕ). Recovers a l h) c.flash (recovers t))

-- A write or a delete on a ready area, cut anywhere, and then recovered: the map is the one from before or the one from after.
module _ {a : Area} {r : Request} {k : ℕ} {f g l : List ℕ} {x : Answer} (w : Given a f) (e : ready a f ≡ true) where
  pub old_or_new : Change r → Answers a r k f x g → Recovered a g l → Holds a l (map_of a f) ⊎ Holds a l (changed r (map_of a f))
  old_or_new q c t = before_or_after w e r q k l (subst (λ (u : List ℕ). Recovers a u l) c.flash (recovers t))

  -- So its handle has the old value or the new one, and every other handle the value that it had.
  pub value_old_or_new : Change r → Answers a r k f x g → Recovered a g l
      → (ready a l ≡ true) × ((map_of a l (handle_in r) ≡ map_of a f (handle_in r)) ⊎ (map_of a l (handle_in r) ≡ data_in r)) × ((u : ℕ) → u ≢ handle_in r → map_of a l u ≡ map_of a f u)
  value_old_or_new q c t =
      ⊎_elim
      (λ (s : Holds a l (map_of a f)). (s.ready, inl (s.map (handle_in r)), λ u n. s.map u))
      (λ (s : Holds a l (changed r (map_of a f))). (s.ready, inr (s.map (handle_in r) ∙ rw (eq-eqb (handle_in r) (handle_in r) refl)), λ u n. s.map u ∙ rw (ne_eqb u (handle_in r) n)))
      (old_or_new q c t)

-- A request tried any number of times, with any power each time, and recovered each time before it is asked again.
pub data Attempted (a : Area) (r : Request) : List ℕ → List ℕ → Type 0 where
  not_yet : {f : List ℕ} → Attempted a r f f
  cut_and_recovered : {k : ℕ} {f g h l : List ℕ} {x : Answer} → Answers a r k f x g → Recovered a g h → Attempted a r h l → Attempted a r f l

attempts : {a : Area} {r : Request} {f g : List ℕ} → Attempted a r f g → Tried a r f g
attempts not_yet = untried
attempts {a} {r} (cut_and_recovered {k} {h = h} c t s) = and_tried k (subst (λ (u : List ℕ). Recovers a u h) c.flash (recovers t)) (attempts s)

-- Requests one after the other, with their answers: each tried so, and then asked once more and not cut.
pub data CarriedOut (a : Area) : List Request → List ℕ → List Answer → List ℕ → Type 0 where
  all_done : {f : List ℕ} → CarriedOut a [] f [] f
  next_done : {k : ℕ} {r : Request} {rs : List Request} {f g h l : List ℕ} {x : Answer} {xs : List Answer} → Attempted a r f g → Answers a r k g x h → was_cut x ≡ false
      → CarriedOut a rs h xs l → CarriedOut a (r ∷ rs) f (x ∷ xs) l

not_cut : {k : ℕ} {a : Area} {r : Request} {f g h : List ℕ} {x : Answer} → Attempted a r f g → Answers a r k g x h → was_cut x ≡ false → Carried a r f x h
not_cut {k} {a} {r} {f} {g} {h} s c u =
    subst (λ (y : Answer). Carried a r f y h) (sym c.answer)
    (subst (λ (m : List ℕ). Carried a r f (run a r k g).answer m) (sym c.flash) (uncut k (attempts s) (ap was_cut (sym c.answer) ∙ u)))

carried : {a : Area} {rs : List Request} {f g : List ℕ} {xs : List Answer} → CarriedOut a rs f xs g → CarriedAll a rs f xs g
carried all_done = no_more
carried (next_done s c u t) = and_then (not_cut s c u) (carried t)

-- Two requests of legal handle and length, on different handles, their new words and all live ones within the quota, carried out in either
-- order: both end in the same map, the starting one with both changes made.
module _ {a : Area} {f : List ℕ} (w : Given a f) (e : ready a f ≡ true) where
  pub both_orders : (r q : Request) → Proper r → Proper q → handle_in r ≢ handle_in q → WithinQuota a (live_words (entries a f) + (new_words r + new_words q))
      → {xs ys : List Answer} {g l : List ℕ} → CarriedOut a (r ∷ (q ∷ [])) f xs g → CarriedOut a (q ∷ (r ∷ [])) f ys l
      → Holds a g (changed q (changed r (map_of a f))) × Holds a l (changed q (changed r (map_of a f))) × FineAll (r ∷ (q ∷ [])) xs × FineAll (q ∷ (r ∷ [])) ys
  both_orders r q p o d n {xs} {ys} {g} {l} c b = either_order w e r q p o d n xs ys g l (carried c) (carried b)

  -- After each cut and full recovery, of the first request or of a later one, the map is the one from before that request or the one from
  -- after it.
  pub after_every_cut : (rs : List Request) → ProperAll rs → (r : Request) → Proper r → WithinQuota a (live_words (entries a f) + new_words_all rs + new_words r)
      → {xs : List Answer} {g h : List ℕ} → CarriedOut a rs f xs g → Attempted a r g h
      → Holds a h (changed_all rs (map_of a f)) ⊎ Holds a h (changed r (changed_all rs (map_of a f)))
  after_every_cut rs p r o n {xs} {g} {h} c t = (after_each_cut w e rs p r o n xs g h (carried c) (attempts t)).0
