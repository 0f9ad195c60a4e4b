-- In good books the search finds what stands there, and a body lies where it starts; one law for each way out. Assumes nothing.
use mathlib.Core.Path.{◌≡◌, refl, sym}
use mathlib.Core.Bool.{false}
use mathlib.Core.Logic.{◌⊎◌, inl, inr}
use Rattle.book.specs.Book.{good}
use Rattle.book_lookup.proofs.Places.{bad_part, bad_place, house_part, house_place, office_part, office_place, no_part, no_place}
use Rattle.book_lookup.proofs.two_books.find.Goals as goal
use Rattle.book_lookup.proofs.two_books.find.Goals.{in_default-via-in-Some+in_default, in_default-via-in_default}

pub returns-in_default : goal.returns-in_default
returns-in_default c =
    let bad : (good c.args.house.now ≡ false) ⊎ (good c.args.office.now ≡ false) = elim c.in_default.branch [ in_default-via-in-Some+in_default w ↦ inr (sym w.in_default.ensures'.good) | in_default-via-in_default w ↦ inl (sym w.in_default.ensures.good) ] in
    record { result_value = bad_part _ _ _ bad; ref_ptr_value = bad_place _ _ _ bad _ _ }

pub returns-in-Some : goal.returns-in-Some
returns-in-Some c =
    let a = c.in-Some-Some in
    let sought = rw a.ensures.book at c.in-Some.ensures.value in
    record {
      result_value = house_part _ _ _ (sym a.ensures.good) (sym a.ensures'.good) _ sought _ refl _ (rw a.ensures.book at c.text.ensures.result_value);
      ref_ptr_value = house_place _ _ _ (sym a.ensures.good) (sym a.ensures'.good) _ sought _ refl _ _ _ _ (rw a.ensures.book at a.ours.counted) c.in-Some.ensures.bound (rw a.ensures.book at c.text.ensures.ref_ptr_value);
    }

pub returns-in-Some-seek : goal.returns-in-Some-seek
returns-in-Some-seek c =
    let a = c.in-Some-Some in
    let missed = rw a.ensures.book at c.in_default-seek.ensures.value in
    let sought = rw a.ensures'.book at c.in-Some-seek.ensures.value in
    record {
      result_value = office_part _ _ _ (sym a.ensures.good) (sym a.ensures'.good) _ missed refl _ sought _ refl _ (rw a.ensures'.book at c.text-in-Some-seek.ensures.result_value);
      ref_ptr_value = office_place _ _ _ (sym a.ensures.good) (sym a.ensures'.good) _ missed refl _ sought _ refl _ _ _ _ (rw a.ensures'.book at a.theirs.counted) c.in-Some-seek.ensures.bound (rw a.ensures'.book at c.text-in-Some-seek.ensures.ref_ptr_value);
    }

pub returns-in_default-seek-2 : goal.returns-in_default-seek-2
returns-in_default-seek-2 c =
    let a = c.in-Some-Some in
    let missed = rw a.ensures.book at c.in_default-seek.ensures.value in
    let neither = rw a.ensures'.book at c.in_default-seek-2.ensures.value in
    record {
      result_value = no_part _ _ _ (sym a.ensures.good) (sym a.ensures'.good) _ missed refl _ neither refl;
      ref_ptr_value = no_place _ _ _ (sym a.ensures.good) (sym a.ensures'.good) _ missed refl _ neither _ _ refl;
    }
