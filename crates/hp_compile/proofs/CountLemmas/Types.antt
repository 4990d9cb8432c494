-- Types that the crate of the walk keeps to itself, each as that of a value.
use Rattle.hp_expand.specs.Sizes as sizes
use Rattle.hp_expand.specs.Shapes as shapes

abbrev TypeOf : {A : Type 0} → A → Type 0
TypeOf {A} a = A

abbrev TakenBy : {A B : Type 0} → (A → B) → Type 0
TakenBy {A} {B} f = A

abbrev pub Size : Type 0
Size = TypeOf sizes.none

abbrev pub Form : Type 0
Form = TypeOf shapes.no_form

abbrev pub Found : Type 0
Found = TypeOf shapes.nothing

abbrev pub Breach : Type 0
Breach = TakenBy shapes.place_of
