use Rattle.std.proofs.Common.{◌≡◌, ℕ, ◌-◌, List, length, sym, ◌∙◌, ap, subst, arith}
use Rattle.gl_outside.specs.declared.areas.Area.{Area}
use Rattle.gl_outside.specs.declared.crash.Unsynced.{Unsynced}
use Rattle.gl_outside.specs.AfterCrash.{first_calls, left_by, IsFilled}
use Rattle.gl_outside.specs.Areas.{bytes_in, held}
use Rattle.gl_outside.specs.Crash.{AreLawful}
use Rattle.gl_outside.specs.Events.{content, IsImage}
use Rattle.gl_outside.specs.Views.{DiskView}
use Rattle.gl_outside.proofs.LeftParts.{left_is_image, lawful_front, since}
use Rattle.gl_outside.proofs.LeftWords.{absent, zeros, ones}
use Rattle.gl_outside.proofs.Room.{within, together_read}
use Rattle.gl_outside.proofs.memory.MemoryDisk.after_crash.Goals as goal

-- what is found is what is left
found : (c : goal.In_ok-calls) (b : ℕ) → content c.in_ok-calls.calls.events b ≡ left_by c.args.unsynced (first_calls c.args.calls c.args.self.now.events) b
found c b = sym (c.in_ok-calls.ensures.holds b) ∙ ap (λ (l : List Area). bytes_in l b) c.deref.ensures.value ∙ c.in_ok-areas.ensures b ∙ ap (λ (d : DiskView). left_by c.args.unsynced (first_calls c.args.calls d.events) b) c.self.view_is

lawful : (c : goal.In_ok-calls) → AreLawful c.args.self.now.events
lawful c = subst (λ (d : DiskView). AreLawful d.events) c.self.view_is c.self.invariant.lawful

-- the first calls are lawful too
lawful_first : (c : goal.In_ok-calls) → AreLawful (first_calls c.args.calls c.args.self.now.events)
lawful_first c = lawful_front (length c.args.self.now.events - c.args.calls) c.args.self.now.events (lawful c)

image : (c : goal.In_ok-calls) → IsImage (first_calls c.args.calls c.args.self.now.events) (content c.in_ok-calls.calls.events)
image c = left_is_image c.args.unsynced c.args.calls c.args.self.now.events (content c.in_ok-calls.calls.events) (lawful c) (found c)

pub returns-clause-image : goal.returns-clause-image
returns-clause-image c = image c

pub returns-clause-since : goal.returns-clause-since
returns-clause-since c t le few = since c.args.self.now.events c.args.calls t (content c.in_ok-calls.calls.events) le few (image c)

pub returns-clause-absent : goal.returns-clause-absent
returns-clause-absent c is b = found c b ∙ ap (λ (k : Unsynced). left_by k (first_calls c.args.calls c.args.self.now.events) b) is ∙ absent (first_calls c.args.calls c.args.self.now.events) b

filled : (c : goal.In_ok-calls) (k : Unsynced) (f b : ℕ) → c.args.unsynced ≡ k → IsFilled f b (first_calls c.args.calls c.args.self.now.events) (left_by k (first_calls c.args.calls c.args.self.now.events) b) → IsFilled f b (first_calls c.args.calls c.args.self.now.events) (content c.in_ok-calls.calls.events b)
filled c k f b is all = subst (λ (l : List ℕ). IsFilled f b (first_calls c.args.calls c.args.self.now.events) l) (sym (found c b ∙ ap (λ (u : Unsynced). left_by u (first_calls c.args.calls c.args.self.now.events) b) is)) all

pub returns-clause-zeros : goal.returns-clause-zeros
returns-clause-zeros c is b = filled c _ 0 b is (zeros (first_calls c.args.calls c.args.self.now.events) (lawful_first c) b)

pub returns-clause-ones : goal.returns-clause-ones
returns-clause-ones c is b = filled c _ 255 b is (ones (first_calls c.args.calls c.args.self.now.events) (lawful_first c) b)

pub returns-clause-room : goal.returns-clause-room
returns-clause-room c = record {
  for_calls = c.in_ok-calls.ensures.calls_left;
  for_bytes = λ b. omega (arith, c.in_ok-calls.ensures.bytes_left, ap length (c.in_ok-calls.ensures.holds b), ap held c.deref.ensures.value, within c.deref.result.now b);
  for_areas = λ places apart. omega (arith, c.in_ok-calls.ensures.bytes_left, ap held c.deref.ensures.value, together_read c.deref.result.now c.in_ok-calls.calls.events c.in_ok-calls.ensures.holds places apart);
}
