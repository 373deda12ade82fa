-- What the stores on an area that was lent for them come to, where it is given back: laws. Assumes nothing.
use Rattle.std.specs.Prelude.{◌≡◌, List, ℕ, ◌≤◌}
use Rattle.std.proofs.Common.{◌∙◌}
use Rattle.flash.specs.declared.Power.{Power}
use Rattle.flash.specs.Stores.{Store, Ran}
use Rattle.rules.specs.declared.Area.{Area}
use Rattle.rules.specs.Walk.{entry_length}
use Rattle.rules.specs.Lists.{format_list, room_page, append_to, recover_list, drop_doubles}
use Rattle.area.specs.declared.held.Held.{Held}
use Rattle.area.specs.Holding.{Runs}
use Rattle.manager.specs.Storing.{full, left_less}

pub held_less : {ss : List Store} {x y : Held} {p : Power} (k : ℕ) → Runs ss x y → x.power ≡ p → p ≡ full k → y.power.left ≤ k
held_less k r d e = left_less k r.ran (d ∙ e)

module _ {x y : Held} {a : Area} {p : Power} {f g : List ℕ} (u : (x.area ≡ a) × (x.power ≡ p) × (x.run.now ≡ f)) where
  pub format_ended : Runs (format_list x.area x.run.now) x y → g ≡ y.run.now → Ran (format_list a f) p f y.power g
  format_ended r o = rw o (rw (u.0, u.1, u.2) at r.ran)

  pub recover_ended : Runs (recover_list x.area x.run.now) x y → g ≡ y.run.now → Ran (recover_list a f) p f y.power g
  recover_ended r o = rw o (rw (u.0, u.1, u.2) at r.ran)

  pub drops_ended : Runs (drop_doubles x.area x.run.now) x y → g ≡ y.run.now → Ran (drop_doubles a f) p f y.power g
  drops_ended r o = rw o (rw (u.0, u.1, u.2) at r.ran)

  pub write_ended : (h : ℕ) (d : List ℕ) → Runs (append_to x.area h d (room_page x.area x.run.now (entry_length d)) x.run.now) x y → g ≡ y.run.now
      → Ran (append_to a h d (room_page a f (entry_length d)) f) p f y.power g
  write_ended h d r o = rw o (rw (u.0, u.1, u.2) at r.ran)
