-- Harts at fault, and reports of broken promises.
use Rattle.std.proofs.Common.{◌≡◌, ◌≢◌, ℕ, zero, suc, List, [], ◌∷◌, map, Some, Bool, true, false, inl, inr, ◌||◌, not, refl, sym, ◌∙◌, subst}
use Rattle.std.specs.Prelude.{slice_get, ◌==◌, IsTrue, IsFalse}
use Rattle.std.proofs.lemmas.Bool.{eqb-true}
use Rattle.rv_model.specs.declared.hart.Hart.{Hart as HartState}
use Rattle.rv_model.specs.declared.image.Image.{Image}
use Rattle.rv_model.specs.declared.layout.TheConstants.{END_WORD}
use Rattle.rv_model.specs.declared.report.Report.{Report}
use Rattle.rv_model.specs.declared.report.RunEnd.TheVariants.{Broken}
use Rattle.rv_model.specs.Machine.{Hart, Fault, hart_of, words_of}
use Rattle.rv_model.specs.Layout.{IsSound, log}
use Rattle.rv_model.specs.Run.{Machine, machine_of, move_of, Runs, Reach}
use Rattle.rv_model.specs.Serial.{is_over, Serial}
use Rattle.rv_model.proofs.InTurns.{none_spent}
use Rattle.rv_model.proofs.Lists.{map_get}
use Rattle.rv_model.proofs.Reaching.{reaches_sound}
use Rattle.serial_runner.specs.Turns.{HasFault}
use Rattle.serial_runner.specs.Ending.{ending, HasRoom, IsFaulted, IsBroken}
use Rattle.serial_runner.specs.Reported.{IsRunOf}
use Rattle.serial_runner.proofs.Causes.{AreUnspent, going_on, ending_kept}

-- the code's hart at the place of one of the definitions
seen_at : (hs : List HartState) (i : ℕ) (x : Hart) → slice_get (map hart_of hs) i ≡ Some x → (h : HartState) × (slice_get hs i ≡ Some h) × (hart_of h ≡ x)
seen_at [] i x at = absurd (cc)
seen_at (h ∷ hs) zero x at = (h, refl, some_is (hart_of h) x at)
  where
    some_is : (x y : Hart) → Some x ≡ Some y → x ≡ y
    some_is x y e = cc
seen_at (h ∷ hs) (suc i) x at = seen_at hs i x at

left : (a b : Bool) → (a || b) ≡ false → a ≡ false
left true b f = f
left false b f = refl

right : (a b : Bool) → (a || b) ≡ false → b ≡ false
right true b f = absurd (cc)
right false b f = f

not_not : (b : Bool) → not b ≡ false → b ≡ true
not_not true f = refl
not_not false f = absurd (cc)

apart : (b : Bool) → IsTrue b → b ≡ false → ⊥
apart true t g = cc
apart false t g = cc

-- the end word and the harts of a run that isn't over
running : (image : Image) (words : List ℕ) (harts : List HartState) → IsFalse (is_over image (machine_of harts words)) → words_of words END_WORD ≡ 0
running image words harts f = eqb-true (words_of words END_WORD) 0 (not_not _ (left _ _ f))

unspent : (image : Image) (words : List ℕ) (harts : List HartState) → IsFalse (is_over image (machine_of harts words)) → AreUnspent image.settings.budget harts
unspent image words harts f i h at = none_spent image.settings.budget (map hart_of harts) i (hart_of h) (right (not (words_of words END_WORD == 0)) _ f) (map_get hart_of harts i h at)

-- a hart at fault in a run that isn't over
pub faulted : (image : Image) (words : List ℕ) (harts : List HartState) (i : ℕ) → IsFalse (is_over image (machine_of harts words)) → HasFault image i (machine_of harts words) → IsFaulted image words harts
faulted image words harts i f has =
    let here = seen_at harts i has.0 has.1 in
    record {
      running = running image words harts f;
      unspent = unspent image words harts f;
      number = i;
      hart = here.0;
      there = here.1;
      fault = subst (λ (x : Hart). move_of image (words_of words) x ≡ Fault) (sym here.2) has.2;
    }

-- a run that is over has none
pub over_kept : (image : Image) (words : List ℕ) (harts : List HartState) → IsTrue (is_over image (machine_of harts words)) → IsFaulted image words harts → ⊥
over_kept image words harts over f = apart _ over (going_on image words harts f.running f.unspent)

-- nor has one whose harts are at no fault
pub still_kept : (image : Image) (words : List ℕ) (harts : List HartState) → ((i : ℕ) → HasFault image i (machine_of harts words) → ⊥) → IsFaulted image words harts → ⊥
still_kept image words harts none f = none f.number (hart_of f.hart, map_get hart_of harts f.number f.hart f.there, f.fault)

-- an image that keeps the machine's promise doesn't break it
never : (image : Image) (words : List ℕ) (harts : List HartState) → Runs image → Reach image words harts → IsBroken image words harts → ⊥
never image words harts runs reach (inl room) = room runs.room
never image words harts runs reach (inr (inl unsound)) = unsound (reaches_sound image (machine_of harts words) runs reach.1)
never image words harts runs reach (inr (inr f)) = no_fault f.number (hart_of f.hart) (map_get hart_of harts f.number f.hart f.there) f.fault
  where
    no_fault : (i : ℕ) (h : Hart) → slice_get (machine_of harts words).harts i ≡ Some h → move_of image (machine_of harts words).words h ≢ Fault
    no_fault = subst (λ (m : Machine). (i : ℕ) (h : Hart) → slice_get m.harts i ≡ Some h → move_of image m.words h ≢ Fault) reach.1.2 (runs.no_fault reach.1.0 reach.1.1)

-- the report of a broken promise
pub broken_reported : (image : Image) (turns : ℕ) (r : Report) → Reach image r.words r.harts → IsBroken image r.words r.harts → r.end ≡ Broken → r.printed ≡ [] → IsRunOf image turns r
broken_reported image turns r reach broken end printed = record {
  reach = reach;
  serial = λ other. absurd (other end);
  sound = λ other. absurd (other end);
  printed = λ other. absurd (other end);
  end = λ other. absurd (other end);
  broken = (λ is. broken, λ is. end);
  unprinted = λ is. printed;
  kept = λ runs is. never image r.words r.harts runs reach broken;
}

-- the report of a run that kept it
pub kept_reported : (image : Image) (turns : ℕ) (r : Report) → Reach image r.words r.harts → Serial image turns r.words r.harts → HasRoom image → IsSound image.settings.out (words_of r.words) → (IsFaulted image r.words r.harts → ⊥) → r.printed ≡ log (words_of r.words) → r.end ≡ ending image.settings.budget (words_of r.words) r.harts → IsRunOf image turns r
kept_reported image turns r reach serial room sound none printed end = record {
  reach = reach;
  serial = λ other. serial;
  sound = λ other. sound;
  printed = λ other. printed;
  end = λ other. end;
  broken = (λ is. absurd (other is), λ broken. absurd (keeps broken));
  unprinted = λ is. absurd (other is);
  kept = λ runs is. other is;
}
  where
    other : r.end ≢ Broken
    other is = ending_kept image.settings.budget (words_of r.words) r.harts sound.kind (sym end ∙ is)

    keeps : IsBroken image r.words r.harts → ⊥
    keeps (inl no_room) = no_room room
    keeps (inr (inl unsound)) = unsound sound
    keeps (inr (inr f)) = none f
