-- A judged program whose inlined calls are replaced and whose clocks are written is accepted.
use Rattle.std.proofs.Common.{◌≡◌, ℕ, List, [], ◌∷◌, reverse, refl, sym, ap, subst, ◌∙◌}
use Rattle.std.specs.Prelude.{⊤, Bool, true, false, ◌||◌, is_some, if◌then◌else◌, Option, None, Some, IsSome}
use Rattle.std.specs.Str.{bytes_eq}
use Rattle.hp_tree.specs.declared.program.Item.{Item}
use Rattle.hp_tree.specs.declared.program.Item.TheVariants.{TypeItem, NodeItem}
use Rattle.hp_tree.specs.Programs.{TypeDecl, Node}
use Rattle.hp_tree.specs.Meaning.{types_of, node_among}
use Rattle.hp_base.specs.Known.Known.{lookup, with_entry}
use Rattle.hp_meaning.specs.Causal.Clocked.{ClocksRight}
use Rattle.hp_typing.specs.Scopes.{with_type}
use Rattle.hp_meaning.specs.Clocking.Terms.{IsShortest}
use Rattle.hp_meaning.specs.Clocking.Clocking.{Assignment, IsAllowed, in_body, base_written, node_with_clocks}
use Rattle.hp_init.specs.Initialised.{IsInitialised}
use Rattle.law_judged.specs.Named.Scopes.{Scope}
use Rattle.law_judged.specs.Named.Scoped.{NodeScoped, EachNode}
use Rattle.hp_expand.specs.Numbering.{replaced_node, with_node, replaced_items}
use Rattle.law_judged.specs.Once.Once.{DefinedOnce}
use Rattle.law_values.specs.Valued.Judged.{NodeSound}
use Rattle.law_values.specs.Valued.Values.{scope_behind, Classing, AreAccepted}
use Rattle.law_values.specs.Accepted.Written.{NodePlain, AreClocked, AreSound}
use Rattle.law_values.proofs.AcceptedLemmas.SoundNodes.{node_more, AllSound}
use Rattle.law_values.proofs.AcceptedLemmas.Definite.{node_classes}
use Rattle.law_values.proofs.AcceptedLemmas.ClocksKept.{same_base, node_clocked, block_plain, contract_plain}
use Rattle.law_values.proofs.AcceptedLemmas.ClassesKept.{classes_kept}
use Rattle.law_values.proofs.AcceptedLemmas.ClocksFirst.{clocks_first}
use Rattle.law_values.proofs.AcceptedLemmas.Swaps.{NodesAlike, node_to}

-- ---- no name of a node is that of an earlier one

abbrev Seen : Type 0
Seen = List ℕ → Bool

abbrev also : Seen → List ℕ → Seen
also seen x f = bytes_eq x f || seen f

abbrev pub Fresh : Seen → List Item → Type 0
Fresh seen [] = ⊤
Fresh seen (TypeItem t ∷ items) = Fresh seen items
Fresh seen (NodeItem n ∷ items) = (seen n.name ≡ false) × Fresh (also seen n.name) items

abbrev KnownIn : List Item → Type 0
KnownIn done = (f : List ℕ) → lookup (scope_behind done).nodes f ≡ node_among done f

-- of the names that are seen there are nodes, or of no others
abbrev OfSeen : Seen → List Item → Type 0
OfSeen seen done = (f : List ℕ) → seen f ≡ true → IsSome (node_among done f)

abbrev OfNoOther : Seen → List Item → Type 0
OfNoOther seen done = (f : List ℕ) → seen f ≡ false → node_among done f ≡ None

of_more : (seen : Seen) (done : List Item) (n : Node) → OfSeen seen done → OfSeen (also seen n.name) (NodeItem n ∷ done)
of_more seen done n o f h = by (bytes_eq n.name f) h
  where
    by : (b : Bool) → (b || seen f) ≡ true → IsSome (if b then Some n else node_among done f)
    by true h = refl
    by false h = o f h

no_other : (seen : Seen) (done : List Item) (n : Node) → OfNoOther seen done → OfNoOther (also seen n.name) (NodeItem n ∷ done)
no_other seen done n o f h = by (bytes_eq n.name f) h
  where
    by : (b : Bool) → (b || seen f) ≡ false → (if b then Some n else node_among done f) ≡ None
    by true h = absurd (cc)
    by false h = o f h

known_more : (done : List Item) (n : Node) → KnownIn done → lookup (scope_behind done).nodes n.name ≡ None → KnownIn (NodeItem n ∷ done)
known_more done n k new f = node_more (scope_behind done) n (node_among done) new k f

fresh_of : (types : List TypeDecl) (seen : Seen) (done items : List Item) → KnownIn done → OfSeen seen done → AllSound types done items → Fresh seen items
fresh_of types seen done [] k o h = tt
fresh_of types seen done (TypeItem t ∷ items) k o h = fresh_of types seen (TypeItem t ∷ done) items k o h
fresh_of types seen done (NodeItem n ∷ items) k o h =
    (unseen (seen n.name) refl, fresh_of types (also seen n.name) (NodeItem n ∷ done) items (known_more done n k h.0.1.0) (of_more seen done n o) h.1)
  where
    none : (o : Option Node) → IsSome o → o ≡ None → ⊥
    none None s e = absurd (cc)
    none (Some m) s e = absurd (cc)

    unseen : (b : Bool) → seen n.name ≡ b → seen n.name ≡ false
    unseen true e = absurd (none (node_among done n.name) (o n.name e) (sym (k n.name) ∙ h.0.1.0))
    unseen false e = e

fresh_replaced : (seen : Seen) (nodes : List ℕ → Node) (items : List Item) → Fresh seen items → Fresh seen (replaced_items nodes items)
fresh_replaced seen nodes [] h = tt
fresh_replaced seen nodes (TypeItem t ∷ items) h = fresh_replaced seen nodes items h
fresh_replaced seen nodes (NodeItem n ∷ items) h = (h.0, fresh_replaced (also seen n.name) (with_node nodes (replaced_node nodes n)) items h.1)

abbrev pub none_seen : Seen
none_seen f = false

pub replaced_fresh : (types : List TypeDecl) (nodes : List ℕ → Node) (program : List Item) → AllSound types [] program → Fresh none_seen (replaced_items nodes program)
replaced_fresh types nodes program h = fresh_replaced none_seen nodes program (fresh_of types none_seen [] program (λ f. refl) (λ f h. absurd (cc)) h)

-- ---- types stay

pub types_replaced : (nodes : List ℕ → Node) (items : List Item) → types_of (replaced_items nodes items) ≡ types_of items
types_replaced nodes [] = refl
types_replaced nodes (TypeItem t ∷ items) = ap (λ ts. t ∷ ts) (types_replaced nodes items)
types_replaced nodes (NodeItem n ∷ items) = types_replaced (with_node nodes (replaced_node nodes n)) items

pub types_clocked : (xs ys : List Item) → AreClocked xs ys → types_of ys ≡ types_of xs
types_clocked [] [] c = refl
types_clocked (TypeItem t ∷ xs) (y ∷ ys) c = ap (λ z. types_of (z ∷ ys)) c.0 ∙ ap (λ ts. t ∷ ts) (types_clocked xs ys c.1)
types_clocked (NodeItem n ∷ xs) (y ∷ ys) c = ap (λ z. types_of (z ∷ ys)) c.0.1.1 ∙ types_clocked xs ys c.1
types_clocked [] (y ∷ ys) c = absurd c
types_clocked (TypeItem t ∷ xs) [] c = absurd c
types_clocked (NodeItem n ∷ xs) [] c = absurd c

-- ---- plain nodes stay plain

plain_clocked : (xs ys : List Item) → AreClocked xs ys → EachNode NodePlain xs → EachNode NodePlain ys
plain_clocked [] [] c p = tt
plain_clocked (TypeItem t ∷ xs) (y ∷ ys) c p = subst (λ z. EachNode NodePlain (z ∷ ys)) (sym c.0) (plain_clocked xs ys c.1 p)
plain_clocked (NodeItem n ∷ xs) (y ∷ ys) c p =
    subst (λ z. EachNode NodePlain (z ∷ ys)) (sym c.0.1.1) ((block_plain c.0.0 n.body in_body p.0.0, contract_plain c.0.0 n.contract p.0.1), plain_clocked xs ys c.1 p.1)
plain_clocked [] (y ∷ ys) c p = absurd c
plain_clocked (TypeItem t ∷ xs) [] c p = absurd c
plain_clocked (NodeItem n ∷ xs) [] c p = absurd c

-- ---- behind some items, and behind the same ones with their clocks

record Behind (seen : Seen) (done written : List Item) : Type 0 where
  same : scope_behind written ≡ record (scope_behind done) { nodes = (scope_behind written).nodes }
  alike : (f : List ℕ) → NodesAlike (node_among done f) (node_among written f)
  known : KnownIn done
  known_written : KnownIn written
  fresh : OfNoOther seen done
  fresh_written : OfNoOther seen written

behind_nothing : Behind none_seen [] []
behind_nothing = record { same = refl; alike = λ f. tt; known = λ f. refl; known_written = λ f. refl; fresh = λ f h. refl; fresh_written = λ f h. refl }

behind_type : (seen : Seen) (done written : List Item) (t : TypeDecl) → Behind seen done written → Behind seen (TypeItem t ∷ done) (TypeItem t ∷ written)
behind_type seen done written t b =
    record { same = ap (λ z. with_type z t) b.same; alike = b.alike; known = b.known; known_written = b.known_written; fresh = b.fresh; fresh_written = b.fresh_written }

abbrev scope_with : Scope → Node → Scope → Scope
scope_with z m w = record z { nodes = with_entry w.nodes m.name m }

module _ (at : Assignment) where
  behind_node : (seen : Seen) (done written : List Item) (n : Node) → seen n.name ≡ false → Behind seen done written → Behind (also seen n.name) (NodeItem n ∷ done) (NodeItem (node_with_clocks at n) ∷ written)
  behind_node seen done written n new b =
      let m = node_with_clocks at n in
      record {
        same = ap (λ z. scope_with z m (scope_behind written)) b.same;
        alike = λ f. by f (bytes_eq n.name f);
        known = known_more done n b.known (b.known n.name ∙ b.fresh n.name new);
        known_written = known_more written m b.known_written (b.known_written n.name ∙ b.fresh_written n.name new);
        fresh = no_other seen done n b.fresh;
        fresh_written = no_other seen written m b.fresh_written;
      }
    where
      by : (f : List ℕ) (c : Bool) → NodesAlike (if c then Some n else node_among done f) (if c then Some (node_with_clocks at n) else node_among written f)
      by f true = (same_base n.inputs, same_base n.outputs)
      by f false = b.alike f

  sound_there : (types : List TypeDecl) (seen : Seen) (done written : List Item) (n : Node) → Behind seen done written → NodeSound types (node_among done) (scope_behind done) n → NodeSound types (node_among written) (scope_behind written) (node_with_clocks at n)
  sound_there types seen done written n b ok =
      let s = scope_behind done in
      let ns = (scope_behind written).nodes in
      let alike : (f : List ℕ) → NodesAlike (lookup s.nodes f) (lookup ns f) =
      λ f. subst (λ z. NodesAlike z (lookup ns f)) (sym (b.known f)) (subst (λ z. NodesAlike (node_among done f) z) (sym (b.known_written f)) (b.alike f)) in
      subst (λ z. NodeSound types (node_among written) z (node_with_clocks at n)) (sym b.same)
      (node_clocked types (node_among written) at n (record s { nodes = ns }) (node_to types (node_among done) (node_among written) ns b.known_written n s alike ok))

-- ---- item by item

abbrev onto : List Item → List Item → List Item
onto [] ys = ys
onto (x ∷ xs) ys = onto xs (x ∷ ys)

abbrev Accepted : List TypeDecl → List Item → Type 0
Accepted types items = (class : Classing) × AreAccepted types class items

module _ (types : List TypeDecl) (right : (n : Node) (at : Assignment) → NodeScoped n → IsShortest (IsAllowed n) at → ClocksRight (node_with_clocks at n)) where
  items_accepted : (seen : Seen) (done written xs ys : List Item) → Behind seen done written → Fresh seen xs → AreClocked xs ys → AreSound types done xs → EachNode NodeScoped xs → EachNode DefinedOnce xs → IsInitialised xs → EachNode NodePlain ys → Accepted types written → Accepted types (onto ys written)
  items_accepted seen done written [] [] b f c ok sc once i p a = a
  items_accepted seen done written (TypeItem t ∷ xs) (y ∷ ys) b f c ok sc once i p a =
      subst (λ z. EachNode NodePlain (z ∷ ys) → Accepted types (onto ys (z ∷ written))) (sym c.0)
      (λ q. items_accepted seen (TypeItem t ∷ done) (TypeItem t ∷ written) xs ys (behind_type seen done written t b) f c.1 ok sc once i q (a.0, a.1)) p
  items_accepted seen done written (NodeItem n ∷ xs) (y ∷ ys) b f c ok sc once i p a =
      let at = c.0.0 in
      let m = node_with_clocks at n in
      let class = i.0.0 in
      let has = node_classes n sc.0 once.0 class i.0.1.0 i.0.1.1 in
      subst (λ z. EachNode NodePlain (z ∷ ys) → Accepted types (onto ys (z ∷ written))) (sym c.0.1.1)
      (λ q. items_accepted (also seen n.name) (NodeItem n ∷ done) (NodeItem m ∷ written) xs ys (behind_node at seen done written n f.0 b) f.1 c.1 ok.1 sc.1 once.1 i.1 q.1 (
        class ∷ a.0,
        (
          record {
            sound = sound_there at types seen done written n b ok.0;
            classes = classes_kept at n class (clocks_first n class at has.met c.0.1.0) has;
            clocks = right n at sc.0 c.0.1.0;
            plain = q.0.0;
            plain_contract = q.0.1;
          },
          a.1,
        ),
      )) p
  items_accepted seen done written [] (y ∷ ys) b f c ok sc once i p a = absurd c
  items_accepted seen done written (TypeItem t ∷ xs) [] b f c ok sc once i p a = absurd c
  items_accepted seen done written (NodeItem n ∷ xs) [] b f c ok sc once i p a = absurd c

  pub all_accepted : (xs ys : List Item) → Fresh none_seen xs → AreClocked xs ys → AreSound types [] xs → EachNode NodeScoped xs → EachNode DefinedOnce xs → IsInitialised xs → EachNode NodePlain xs → Accepted types (reverse ys)
  all_accepted xs ys f c ok sc once i p = items_accepted none_seen [] [] xs ys behind_nothing f c ok sc once i (plain_clocked xs ys c p) ([], tt)
