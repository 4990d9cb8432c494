-- Which checkpoints fit a machine, and what they spell.
use Rattle.std.proofs.Common.{◌≡◌, ◌<◌, ◌≤◌, ◌+◌, ℕ, zero, suc, Bool, true, false, ◌&&◌, ◌||◌, ◌==◌, if◌then◌else◌, ℤ, pos, negsuc, List, [], ◌∷◌, ◌++◌, length, get_or, drop, map, Option, None, Some, Result, Ok, Err, ◌⊎◌, inl, inr, refl, sym, ap, subst, ◌∙◌, append_assoc, append-nil, arith}
use Rattle.std.specs.Prelude.{codes, IsSome, option_map}
use Rattle.std.specs.Fmt.{signed_decimal}
use Rattle.std.specs.List.{list_all, position, IsDistinct, AllByRecursion}
use Rattle.std.specs.Result.{result_err}
use Rattle.std.specs.Str.{bytes_eq}
use Rattle.std.proofs.lemmas.Bool.Decides.{nat_tests}
use Rattle.std.proofs.lemmas.List.{length-append, length-map}
use Rattle.std.proofs.lemmas.List.Quantifiers.{position-Some}
use Rattle.hp_base.specs.Bytes.{is_capital, is_digit}
use Rattle.hp_base.specs.declared.span.Span.{Span}
use Rattle.hp_base.specs.declared.value.Value.{Value}
use Rattle.hp_base.specs.declared.value.Value.TheVariants.{Absent, Nil, B, E, I, Star}
use Rattle.hp_base.specs.Kinds.{KindData, Bools, Ints, Constructors, IsOfKind, AreOfKinds}
use Rattle.hp_lines.specs.Lines.{text_of, texts_of}
use Rattle.hp_lines.specs.Numbers.{natural_of, number_of}
use Rattle.hp_lines.specs.Refusals.{wrong_word, refusal}
use Rattle.hp_lines.specs.Values.{bool_of, value_of, with_value, values_of}
use Rattle.hp_lines.specs.declared.read.LineErr.{LineErr}
use Rattle.hp_lines.specs.declared.read.LineErr.TheVariants as line
use Rattle.hp_lines.proofs.KindLaws.{values_are_of_kinds}
use Rattle.hp_lines.proofs.ReadLaws.{spells, is_spelled, unrefused}
use Rattle.hp_obc.specs.Form.{TypesForm, MachinesForm, HasObcForm, is_name, is_constructor, machine_named}
use Rattle.hp_obc.specs.Machines.{ObcType, Machine}
use Rattle.hp_obc.proofs.Positions.{position-cons}
use Rattle.hp_obctext.specs.MemoryTexts.{Ended, newline, joined, is_number, is_value, AreValues, value_lines, heading, checkpoint, IsCheckpointOf, Says}
use Rattle.hp_obctext.specs.MemoryReading.{first_word, behind, next, first_words}
use Rattle.hp_obctext.specs.MemoryRefusals.{IsWrong, IsCheckpoint, IsNoCheckpoint, size_at}
use Rattle.hp_obctext.specs.Places.{span_behind, IsEndOf}
use Rattle.hp_obctext.specs.MemoryKinds.{constructors_at, kind_at, kinds_at, AreOfTypes, memory_text, of_line, misfit}
use Rattle.hp_obctext.specs.Shapes.{Each}
use Rattle.hp_obctext.specs.declared.memory.error.MemErr.{MemErr}
use Rattle.hp_obctext.specs.declared.memory.error.MemErr.TheVariants as error
use Rattle.hp_obctext.proofs.Integers.{fits_short}
use Rattle.hp_obctext.proofs.PrintedNumbers.{printed_number}
use Rattle.hp_obctext.proofs.MemoryWords.{first_is, behind_is}
use Rattle.hp_obctext.proofs.MemoryLines.{same_bytes, are_same}
use Rattle.hp_obctext.proofs.MemorySpelling.{Valued, yes, no_, constructor_, number_, valued, value_is_word, number_is, number_by, value_by_constructor, value_by_number}
use Rattle.hp_obctext.proofs.MemoryRefusing.{one_checkpoint, no_place}
use Rattle.hp_obctext.proofs.MemorySizes.{same_kinds}
use Rattle.hp_obctext.proofs.MemoryTypes.{Constructed, constructed, none_constructed}
use Rattle.hp_obctext.proofs.MemoryValues.{same_some}
use Rattle.hp_obctext.proofs.CompleteWords.{number_no_constructor}
use Rattle.hp_obctext.proofs.Truths.{flip}

-- ---- the words of lines

pub lines_words : (ws : List (List ℕ)) → AreValues ws → first_words (length ws) (joined (value_lines ws)) ≡ ws
lines_words [] h = refl
lines_words (w ∷ ws) h =
    let rest = joined (value_lines ws) in
    let k = value_is_word w h.0 in
    ap (λ z. z ∷ first_words (length ws) (next (w ++ newline ∷ rest))) (first_is w newline rest k refl)
    ∙ ap (λ z. w ∷ first_words (length ws) z) (behind_next (w ++ newline ∷ rest) newline rest (behind_is w newline rest k refl))
    ∙ ap (λ z. w ∷ z) (lines_words ws h.1)
  where
    behind_next : (text : List ℕ) (g : ℕ) (rest : List ℕ) → behind text ≡ g ∷ rest → next text ≡ rest
    behind_next text g rest e = ap (λ z. drop 1 z) e

-- ---- what does not fit

equal : (m n : ℕ) → m ≡ n → (m == n) ≡ true
equal m n h = grind (arith, nat_tests)

module _ (node : List ℕ) (kinds : List KindData) (name : List ℕ) (ws : List (List ℕ)) where
  pub misfit_node : bytes_eq name node ≡ false → misfit node kinds name ws ≡ Some error.Node
  misfit_node e = ap (λ d. if d then option_map of_line (refusal kinds ws) else Some error.Node) e

  misfit_line : bytes_eq name node ≡ true → misfit node kinds name ws ≡ option_map of_line (refusal kinds ws)
  misfit_line e = ap (λ d. if d then option_map of_line (refusal kinds ws) else Some error.Node) e

  pub misfit_count : bytes_eq name node ≡ true → (length ws == length kinds) ≡ false → misfit node kinds name ws ≡ Some (error.Count (length ws))
  misfit_count e h = misfit_line e ∙ ap (λ d. option_map of_line (if d then option_map line.Word (wrong_word 1 kinds ws) else Some (line.Count (length ws)))) h

  pub misfit_word : bytes_eq name node ≡ true → (length ws == length kinds) ≡ true → (o : Option ℕ) → wrong_word 1 kinds ws ≡ o → misfit node kinds name ws ≡ option_map error.Word o
  misfit_word e h o k =
      misfit_line e ∙ ap (λ d. option_map of_line (if d then option_map line.Word (wrong_word 1 kinds ws) else Some (line.Count (length ws)))) h
      ∙ ap (λ (p : Option ℕ). option_map of_line (option_map line.Word p)) k ∙ by o
    where
      by : (o : Option ℕ) → option_map of_line (option_map line.Word o) ≡ option_map error.Word o
      by None = refl
      by (Some n) = refl

pub refusal_word : (kinds : List KindData) (ws : List (List ℕ)) → length ws ≡ length kinds → (o : Option ℕ) → wrong_word 1 kinds ws ≡ o → option_map error.Word o ≡ option_map of_line (refusal kinds ws)
refusal_word kinds ws h o k =
    sym (ap (λ d. option_map of_line (if d then option_map line.Word (wrong_word 1 kinds ws) else Some (line.Count (length ws)))) (equal (length ws) (length kinds) h)
    ∙ ap (λ (p : Option ℕ). option_map of_line (option_map line.Word p)) k ∙ by o)
  where
    by : (o : Option ℕ) → option_map of_line (option_map line.Word o) ≡ option_map error.Word o
    by None = refl
    by (Some n) = refl

kinds_length : (types : List ObcType) (now : List Value) → length (kinds_at types now) ≡ length now
kinds_length types [] = refl
kinds_length types (v ∷ now) = ap suc (kinds_length types now)

pub words_are : (types : List ObcType) (now : List Value) (lines : List ℕ) (ws : List (List ℕ)) → length now ≡ length ws → AreValues ws → lines ≡ joined (value_lines ws) → (first_words (length now) lines ≡ ws) × (length ws ≡ length (kinds_at types now))
words_are types now lines ws h v l =
    let m = kinds_length types now in
    (ap (λ n. first_words n lines) h ∙ ap (first_words (length ws)) l ∙ lines_words ws v, sym h ∙ sym m)

-- ---- a word that spells a value is its text

choice : (P : Type 0) (d : Bool) (v w : Value) (rest : Option Value) → (d ≡ true → v ≡ w → P) → (d ≡ false → rest ≡ Some w → P) → (if d then Some v else rest) ≡ Some w → P
choice P true v w rest f g e = f refl (same_some v w e)
choice P false v w rest f g e = g refl e

bool_text : (w : List ℕ) (v : Value) → bool_of w ≡ Some v → text_of Bools v ≡ w
bool_text w v e =
    choice (text_of Bools v ≡ w) (bytes_eq w (codes "true")) (B true) v (if bytes_eq w (codes "false") then Some (B false) else None)
    (λ d p. ap (text_of Bools) (sym p) ∙ sym (are_same w (codes "true") d))
    (λ d q. choice (text_of Bools v ≡ w) (bytes_eq w (codes "false")) (B false) v None (λ h p. ap (text_of Bools) (sym p) ∙ sym (are_same w (codes "false") h)) (λ h p. absurd cc) q) e

int_text : (w : List ℕ) (v : Value) → is_value w ≡ true → option_map I (number_of w) ≡ Some v → text_of Ints v ≡ w
int_text w v h e = by (number_of w) refl e
  where
    valued_by : (n : ℤ) → number_of w ≡ Some n → Valued w → signed_decimal n ≡ w
    valued_by n k (yes p) = let q : None ≡ Some n = ap number_of (sym p) ∙ k in absurd cc
    valued_by n k (no_ p) = let q : None ≡ Some n = ap number_of (sym p) ∙ k in absurd cc
    valued_by n k (constructor_ c) = let q : true ≡ false = sym c ∙ number_no_constructor w n k in absurd cc
    valued_by n k (number_ c) = let r = number_is w c in ap signed_decimal (same_some n r.0 (sym k ∙ r.1)) ∙ sym r.3

    by : (o : Option ℤ) → number_of w ≡ o → option_map I o ≡ Some v → text_of Ints v ≡ w
    by None k q = absurd cc
    by (Some n) k q = ap (text_of Ints) (sym (same_some (I n) v q)) ∙ valued_by n k (valued w h)

constructor_text : (w : List ℕ) (v : Value) (n : ℕ) (names : List (List ℕ)) → option_map (E n) (position (bytes_eq w) names) ≡ Some v → text_of (Constructors n names) v ≡ w
constructor_text w v n names e = by (position (bytes_eq w) names) refl e
  where
    by : (o : Option ℕ) → position (bytes_eq w) names ≡ o → option_map (E n) o ≡ Some v → text_of (Constructors n names) v ≡ w
    by None k q = absurd cc
    by (Some c) k q =
        ap (text_of (Constructors n names)) (sym (same_some (E n c) v q)) ∙ sym (are_same w (get_or names c []) (position-Some (bytes_eq w) names c [] k).1)

value_text : (kind : KindData) (w : List ℕ) (v : Value) → is_value w ≡ true → value_of kind w ≡ Some v → text_of kind v ≡ w
value_text Bools w v h e = bool_text w v e
value_text Ints w v h e = int_text w v h e
value_text (Constructors n names) w v h e = constructor_text w v n names e

pub values_texts : (kinds : List KindData) (ws : List (List ℕ)) (vs : List Value) → AreValues ws → values_of kinds ws ≡ Some vs → texts_of kinds vs ≡ ws
values_texts [] [] vs h e = let q : [] ≡ vs = same_some [] vs e in ap (texts_of []) (sym q)
values_texts [] (w ∷ ws) vs h e = absurd cc
values_texts (kind ∷ kinds) [] vs h e = absurd cc
values_texts (kind ∷ kinds) (w ∷ ws) vs h e =
    let s = spells kind kinds w ws vs e in
    ap (texts_of (kind ∷ kinds)) s.all ∙ ap (λ z. z ∷ texts_of kinds s.others) (value_text kind w s.value h.0 s.first_is) ∙ ap (λ z. w ∷ z) (values_texts kinds ws s.others h.1 s.others_are)

-- ---- the text of a value spells it

differ_at : (x : List ℕ) (names : List (List ℕ)) (c : ℕ) → AllByRecursion (λ z. bytes_eq x z ≡ false) names → c < length names → bytes_eq (get_or names c []) x ≡ false
differ_at x [] c h l = absurd (omega (arith, l))
differ_at x (y ∷ names) zero h l = flip y x ∙ h.0
differ_at x (y ∷ names) (suc c) h l = differ_at x names c h.1 (omega (arith, l))

place_of_name : (names : List (List ℕ)) (c : ℕ) → IsDistinct bytes_eq names → c < length names → position (bytes_eq (get_or names c [])) names ≡ Some c
unfolding IsDistinct
place_of_name [] c h l = absurd (omega (arith, l))
place_of_name (x ∷ names) zero h l = position-cons (bytes_eq x) x names ∙ ap (λ d. if d then Some 0 else option_map suc (position (bytes_eq x) names)) (same_bytes x)
place_of_name (x ∷ names) (suc c) h l =
    let y = get_or names c [] in
    let k : c < length names = omega (arith, l) in
    position-cons (bytes_eq y) x names ∙ ap (λ d. if d then Some 0 else option_map suc (position (bytes_eq y) names)) (differ_at x names c h.0 k) ∙ ap (option_map suc) (place_of_name names c h.1 k)

-- what holds of the constructors of a kind
abbrev IsGood : KindData → Type 0
IsGood (Constructors n names) = Constructed names
IsGood kind = Unit {0}

each_at : (names : List (List ℕ)) (c : ℕ) → Each (λ x. is_constructor x ≡ true) names → c < length names → is_constructor (get_or names c []) ≡ true
each_at [] c h l = absurd (omega (arith, l))
each_at (x ∷ names) zero h l = h.0
each_at (x ∷ names) (suc c) h l = each_at names c h.1 (omega (arith, l))

-- a value of a kind has a word, which spells it
record Worded (kind : KindData) (v : Value) : Type 0 where
  value : is_value (text_of kind v) ≡ true
  spelled_is : value_of kind (text_of kind v) ≡ Some v

int_worded : (n : ℤ) → IsOfKind Ints (I n) → Worded Ints (I n)
int_worded n h =
    let s = fits_short n h in
    record { value = value_by_number (signed_decimal n) (number_by (signed_decimal n) n s refl); spelled_is = ap (option_map I) (printed_number n s) }

worded : (kind : KindData) (v : Value) → IsGood kind → IsOfKind kind v → Worded kind v
worded Bools (B true) g h = record { value = refl; spelled_is = refl }
worded Bools (B false) g h = record { value = refl; spelled_is = refl }
worded Bools (I n) g h = absurd h
worded Bools (E t c) g h = absurd h
worded Bools Absent g h = absurd h
worded Bools Nil g h = absurd h
worded Bools Star g h = absurd h
worded Ints (I n) g h = int_worded n h
worded Ints (B b) g h = absurd h
worded Ints (E t c) g h = absurd h
worded Ints Absent g h = absurd h
worded Ints Nil g h = absurd h
worded Ints Star g h = absurd h
worded (Constructors n names) (E t c) g h = record {
  value = value_by_constructor (get_or names c []) (each_at names c g.capital h.1);
  spelled_is = ap (option_map (E n)) (place_of_name names c g.differ h.1) ∙ ap (λ z. Some (E z c)) (sym h.0);
}
worded (Constructors n names) (B b) g h = absurd h
worded (Constructors n names) (I m) g h = absurd h
worded (Constructors n names) Absent g h = absurd h
worded (Constructors n names) Nil g h = absurd h
worded (Constructors n names) Star g h = absurd h

good_at : (types : List ObcType) → TypesForm types → (v : Value) → IsGood (kind_at types v)
good_at types f (B b) = tt
good_at types f (I n) = tt
good_at types f (E t c) = constructed types f t
good_at types f Absent = none_constructed
good_at types f Nil = none_constructed
good_at types f Star = none_constructed

record AllWorded (kinds : List KindData) (vs : List Value) : Type 0 where
  values : AreValues (texts_of kinds vs)
  spelled_are : values_of kinds (texts_of kinds vs) ≡ Some vs

all_worded : (types : List ObcType) → TypesForm types → (us vs : List Value) → AreOfKinds (kinds_at types us) vs → AllWorded (kinds_at types us) vs
all_worded types f [] [] h = record { values = tt; spelled_are = refl }
all_worded types f [] (v ∷ vs) h = absurd h
all_worded types f (u ∷ us) [] h = absurd h
all_worded types f (u ∷ us) (v ∷ vs) h =
    let kind = kind_at types u in
    let kinds = kinds_at types us in
    let one = worded kind v (good_at types f u) h.0 in
    let more = all_worded types f us vs h.1 in
    record { values = (one.value, more.values); spelled_are = ap (λ o. with_value o (values_of kinds (texts_of kinds vs))) one.spelled_is ∙ ap (with_value (Some v)) more.spelled_are }

-- ---- the name of a machine is one

named_by : (earlier machines : List Machine) (types : List ObcType) (x : List ℕ) → MachinesForm types earlier machines → IsSome (machine_named machines x) → is_name x ≡ true
named_by earlier [] types x f h = cc
named_by earlier (m ∷ machines) types x f h = by (bytes_eq m.name x) refl h (named_by (earlier ++ m ∷ []) machines types x f.1)
  where
    by : (d : Bool) → bytes_eq m.name x ≡ d → IsSome (if d then Some m else machine_named machines x) → (IsSome (machine_named machines x) → is_name x ≡ true) → is_name x ≡ true
    by true e k rest = ap is_name (sym (are_same m.name x e)) ∙ f.0.name
    by false e k rest = rest k

-- ---- the checkpoint of some values

pub record Fitting (types : List ObcType) (node : List ℕ) (us vs : List Value) : Type 0 where
  pub says : Says (memory_text types node vs) node (texts_of (kinds_at types us) vs)
  pub fits : misfit node (kinds_at types us) node (texts_of (kinds_at types us) vs) ≡ None
  pub spelled_are : values_of (kinds_at types us) (texts_of (kinds_at types us) vs) ≡ Some vs

none_wrong : (n : ℕ) (kinds : List KindData) (ws : List (List ℕ)) (vs : List Value) → values_of kinds ws ≡ Some vs → (length ws ≡ length kinds) × (wrong_word n kinds ws ≡ None)
none_wrong n [] [] vs e = (refl, refl)
none_wrong n [] (w ∷ ws) vs e = absurd cc
none_wrong n (kind ∷ kinds) [] vs e = absurd cc
none_wrong n (kind ∷ kinds) (w ∷ ws) vs e =
    let s = spells kind kinds w ws vs e in
    let r = none_wrong (suc n) kinds ws s.others s.others_are in
    (ap suc r.0, ap (λ (o : Option Value). elim o [ None ↦ Some n | Some v ↦ wrong_word (suc n) kinds ws ]) s.first_is ∙ r.1)

pub fitting : (types : List ObcType) (machines : List Machine) (node : List ℕ) (us vs : List Value) → HasObcForm types machines → IsSome (machine_named machines node) → AreOfTypes types us → AreOfKinds (kinds_at types us) vs → Fitting types node us vs
fitting types machines node us vs f m h k =
    let kinds = kinds_at types us in
    let ws = texts_of kinds vs in
    let all = all_worded types f.0 us vs k in
    let none = none_wrong 1 kinds ws vs all.spelled_are in
    record {
      says = record {
        words = checkpoint node ws;
        checkpoint_is = record { node = named_by [] machines types node f.1 m; values = all.values; words = refl };
        text_is = ap (λ ks. joined (checkpoint node (texts_of ks vs))) (same_kinds types us vs h k);
      };
      fits = misfit_word node kinds node ws (same_bytes node) (equal (length ws) (length kinds) none.0) None none.1;
      spelled_are = all.spelled_are;
    }

-- what is read where a checkpoint fits
pub read_values : (types : List ObcType) (node name text : List ℕ) (us vs : List Value) (ws : List (List ℕ)) → AreOfTypes types us → Says text name ws → bytes_eq name node ≡ true → values_of (kinds_at types us) ws ≡ Some vs →
    AreOfKinds (kinds_at types us) vs × (text ≡ memory_text types node vs)
read_values types node name text us vs ws h s e r =
    let kinds = kinds_at types us in
    let c = s.checkpoint_is in
    let k = values_are_of_kinds kinds ws vs r in (
      k,
      s.text_is ∙ ap joined c.words ∙ ap (λ x. joined (checkpoint x ws)) (are_same name node e) ∙ ap (λ z. joined (checkpoint node z)) (sym (values_texts kinds ws vs c.values r))
          ∙ ap (λ ks. joined (checkpoint node (texts_of ks vs))) (sym (same_kinds types us vs h k)),
    )

-- what holds of a checkpoint that fits
pub record Accepted (types : List ObcType) (now : List Value) (node name lines : List ℕ) (ws : List (List ℕ)) : Type 0 where
  pub node_is : bytes_eq name node ≡ true
  pub words : first_words (length now) lines ≡ ws
  pub some : IsSome (values_of (kinds_at types now) ws)

pub accepted : (types : List ObcType) (now : List Value) (node name lines : List ℕ) (ws : List (List ℕ)) → AreValues ws → lines ≡ joined (value_lines ws) → ◌≡◌ {A = Option MemErr} None (misfit node (kinds_at types now) name ws) →
    Accepted types now node name lines ws
accepted types now node name lines ws v l e = by (bytes_eq name node) refl e
  where
    kinds : List KindData
    kinds = kinds_at types now

    none : (o : Option LineErr) → ◌≡◌ {A = Option MemErr} None (option_map of_line o) → ◌≡◌ {A = Option LineErr} None o
    none None h = refl
    none (Some x) h = absurd cc

    by : (d : Bool) → bytes_eq name node ≡ d → ◌≡◌ {A = Option MemErr} None (if d then option_map of_line (refusal kinds ws) else Some error.Node) → Accepted types now node name lines ws
    by true p h =
        let u = unrefused kinds ws (none (refusal kinds ws) h) in
        record { node_is = p; words = (words_are types now lines ws (sym (kinds_length types now) ∙ sym u.0) v l).0; some = is_spelled 1 kinds ws u.0 u.1 }
    by false p h = absurd cc

-- two readings of a text do not fit in one way
pub same_misfit : (node : List ℕ) (kinds : List KindData) (text x y : List ℕ) (ws vs : List (List ℕ)) → Says text x ws → Says text y vs → misfit node kinds x ws ≡ misfit node kinds y vs
same_misfit node kinds text x y ws vs s r = let e = one_checkpoint text x y ws vs s r in ap (λ z. misfit node kinds z ws) e.0 ∙ ap (misfit node kinds y) e.1

-- ---- where a text is refused

pub end_of : (text rest : List ℕ) → IsWrong IsCheckpoint text rest → IsEndOf text rest
end_of text rest (inl r) = record { front = joined r.front; split = r.split }
end_of text rest (inr (inl r)) = record { front = joined r.front ++ r.word; split = r.split ∙ sym (append_assoc (joined r.front) r.word rest) }
end_of text rest (inr (inr (inl r))) = record { front = text; split = sym (append-nil text) ∙ ap (λ z. text ++ z) (sym r.rest_is) }
end_of text rest (inr (inr (inr r))) = record { front = joined r.front; split = r.split }

pub no_checkpoint : (text rest : List ℕ) (span : Span) → IsWrong IsCheckpoint text rest → ((front : List ℕ) → text ≡ front ++ rest → span ≡ span_behind front (size_at rest)) → IsNoCheckpoint text span
no_checkpoint text rest span w p = let e = end_of text rest w in record { front = e.front; rest = rest; split = e.split; wrong = w; place = p e.front e.split }
