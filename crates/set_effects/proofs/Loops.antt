-- The loops over sets and groups: what is known at one place more.
use Rattle.std.proofs.Common.{◌≡◌, ℕ, zero, suc, ◌+◌, ◌<◌, ◌≤◌, Bool, true, false, cond, List, [], ◌∷◌, ◌++◌, Option, Some, None, refl, sym, ap, ◌∙◌, subst, arith, take, drop, length, map, get_or}
use Rattle.std.specs.Prelude.{sum_by, is_none}
use Rattle.std.specs.List.{AllByRecursion}
use Rattle.std.proofs.lemmas.List.{append_assoc, append-nil, map-append, take_more, take_all, get_or-map, get_or_default, length-map, take-append-drop}
use Rattle.std.proofs.lemmas.List.Sums.{sum_by-append}
use Rattle.std.proofs.lemmas.List.Elements.{filter-append}
use Rattle.std.proofs.lemmas.Grind.{flat_map-append}
use Rattle.definitions.specs.Limits.{most_sets}
use Rattle.definitions.specs.declared.rules.Rules.{Rules}
use Rattle.definitions.specs.Bytes.{Delims}
use Rattle.definitions.specs.declared.set_kind.SetKind.{SetKind}
use Rattle.definitions.specs.Structure.{Set, Group, kind_of, group_fault, examined, envelope_faults}
use Rattle.definitions.specs.Events.{Event}
use Rattle.definitions.specs.History.{Verdict, Telling, telling_of, events_told, verdicts_on, tellings_on}
use Rattle.definitions.specs.Texts.{ToldSet, Told, told_set, told_of, answered}
use Rattle.envelope.specs.Parts.{SetOf, set_under, GroupOf, group_under}
use Rattle.stock.specs.Pages.{PageFacts}
use Rattle.stock.specs.Shows.{Shows}
use Rattle.stock.specs.declared.steps.Change.{Change}
use Rattle.stock.specs.Parts.{Named}
use Rattle.set_effects.specs.SetNames.{NamesSets, NamesGroup, NamesGroups}
use Rattle.set_effects.proofs.Led.{after_none, after_both, same_both, part_later, proper_later}
use Rattle.set_effects.specs.Judging.{after, passed, told_events, AreTaken, IsGroupTaken, AreGroupsTaken, IsSmall, is_answered, told_with, told_if}
use Rattle.set_effects.proofs.Verdicts.{tellings_append}
use Rattle.set_effects.proofs.Takes.{examined_length, examined_more, examined_closed, taken_both}

abbrev Examined : Type 0
Examined = Set × Option ℕ

-- what stands at a place of a mapped list
read_map : {X Y : Type 0} (f : X → Y) (xs : List X) (items : List Y) (i : ℕ) (y : Y) (d : X) → items ≡ map f xs → i < length items → y ≡ get_or items i y
    → (i < length xs) × (y ≡ f (get_or xs i d))
read_map f xs items i y d same within is =
    let n : i < length xs = omega (arith, within, ap length same, length-map xs f) in
    (n, is ∙ ap (λ ys. get_or ys i y) same ∙ get_or-map f xs i d y n)

-- Sets.

-- the fault at the place of a set is there
pub fault_within : (g : Group) (d : Delims) (items : List SetOf) (faults : List (Option ℕ)) (i : ℕ) → items ≡ map (set_under d) g.sets → faults ≡ envelope_faults g
    → i < length items → i < length faults
fault_within g d items faults i same found within =
    omega (arith, within, ap length same, length-map g.sets (set_under d), ap length found, length-map (examined g) (λ (p : Examined). p.1), examined_length (kind_of g) [] g.sets)

-- and where it is none the set is closed
pub set_closed : (g : Group) (d : Delims) (items : List SetOf) (faults : List (Option ℕ)) (i : ℕ) (x : SetOf) (f : Option ℕ)
    → items ≡ map (set_under d) g.sets → faults ≡ envelope_faults g → i < length items → x ≡ get_or items i x → f ≡ get_or faults i f → f ≡ None → x.set.is_closed ≡ true
set_closed g d items faults i x f same found within here fault none =
    let read = read_map (set_under d) g.sets items i x x.set same within here in
    let there : get_or (map (λ (p : Examined). p.1) (examined g)) i None ≡ None =
    ap (λ (fs : List (Option ℕ)). get_or fs i None) (sym found) ∙ get_or_default faults i None f (fault_within g d items faults i same found within) ∙ sym fault ∙ none in
    ap (λ (s : SetOf). s.set.is_closed) read.1 ∙ examined_closed (kind_of g) [] g.sets i x.set read.0 there

-- one set more
pub sets_go_on : (r : Rules) (g : Group) (d : Delims) (kind : Option SetKind) (items : List SetOf) (faults : List (Option ℕ)) (i : ℕ) (x : SetOf) (f : Option ℕ)
    (start mid new : PageFacts) (cs ds es : List Change) (told : List ToldSet) (t : ToldSet) (all : List ToldSet)
    → items ≡ map (set_under d) g.sets → faults ≡ envelope_faults g → i < length items → x ≡ get_or items i x → f ≡ get_or faults i f
    → AreTaken r d kind (take i (examined g)) start mid cs told → AreTaken r x.delims kind ((x.set, f) ∷ []) mid new ds (t ∷ []) → es ≡ cs ++ ds → all ≡ told ++ t ∷ []
    → AreTaken r d kind (take (i + 1) (examined g)) start new es all
sets_go_on r g d kind items faults i x f start mid new cs ds es told t all same found within here fault before step joined is =
    let read = read_map (set_under d) g.sets items i x x.set same within here in
    let at : f ≡ get_or (map (λ (p : Examined). p.1) (examined g)) i None =
    fault ∙ get_or_default faults i f None (fault_within g d items faults i same found within) ∙ ap (λ (fs : List (Option ℕ)). get_or fs i None) found in
    let whose : x.set ≡ get_or g.sets i x.set = ap (λ (s : SetOf). s.set) read.1 in
    let pair : (x.set, f) ≡ (get_or g.sets i x.set, get_or (map (λ (p : Examined). p.1) (examined g)) i None) =
    ap (λ (s : Set). (s, f)) whose ∙ ap (λ (o : Option ℕ). (get_or g.sets i x.set, o)) at in
    let more : take (i + 1) (examined g) ≡ take i (examined g) ++ (x.set, f) ∷ [] =
    examined_more (kind_of g) g.sets i x.set read.0 ∙ ap (λ (p : Examined). take i (examined g) ++ p ∷ []) (sym pair) in
    let one : AreTaken r d kind ((x.set, f) ∷ []) mid new ds (t ∷ []) =
    subst (λ (e : Delims). AreTaken r e kind ((x.set, f) ∷ []) mid new ds (t ∷ [])) (ap (λ (s : SetOf). s.delims) read.1) step in
    let both : AreTaken r d kind (take i (examined g) ++ (x.set, f) ∷ []) start new (cs ++ ds) (told ++ t ∷ []) = taken_both r d kind (take i (examined g)) ((x.set, f) ∷ []) start mid new cs ds told (t ∷ []) before one in
    subst (λ (ps : List Examined). AreTaken r d kind ps start new es all) (sym more)
    (subst (λ (ts : List ToldSet). AreTaken r d kind (take i (examined g) ++ (x.set, f) ∷ []) start new es ts) (sym is)
    (subst (λ (fs : List Change). AreTaken r d kind (take i (examined g) ++ (x.set, f) ∷ []) start new fs (told ++ t ∷ [])) (sym joined) both))

-- all sets
pub sets_all : (r : Rules) (g : Group) (d : Delims) (kind : Option SetKind) (items : List SetOf) (i : ℕ) (start new : PageFacts) (cs : List Change) (told : List ToldSet)
    → items ≡ map (set_under d) g.sets → length items ≤ i → AreTaken r d kind (take i (examined g)) start new cs told → AreTaken r d kind (examined g) start new cs told
sets_all r g d kind items i start new cs told same end before =
    subst (λ (ps : List Examined). AreTaken r d kind ps start new cs told)
    (take_all i (examined g) (omega (arith, end, ap length same, length-map g.sets (set_under d), examined_length (kind_of g) [] g.sets))) before

-- Groups.

-- a group with a fault leaves the page
pub group_kept : (r : Rules) (g : Group) (d : Delims) (p : PageFacts) (fault : ℕ) → group_fault g ≡ Some fault → IsGroupTaken r d g p p [] []
group_kept r g d p fault is = record {
  same = refl;
  shows = λ n P es part names shows. rw is (subst (Shows (after [] p.recent P)) (sym (append-nil es)) (subst (λ (q : PageFacts). Shows q es) (after_none n p P part) shows));
  proper = λ n P es part names shows. tt;
  told = λ n P es part names shows. rw is refl;
  entries = refl;
  recent = omega arith;
}

-- a group without a fault has a kind
pub no_kind : (g : Group) → group_fault g ≡ None → kind_of g ≡ None → ⊥
no_kind g none unknown = let is : group_fault g ≡ Some 1 = rw unknown refl in absurd (cc (is, none))

-- and its sets are taken
telling_verdicts : (r : Rules) (d : Delims) (es : List Event) (n : ℕ) (g : Group) (kind : SetKind) → group_fault g ≡ None → kind_of g ≡ Some kind
    → (telling_of r d es n g).verdicts ≡ verdicts_on r d es n (Some kind) (examined g)
telling_verdicts r d es n g kind none is =
    ap (λ (o : Option ℕ). cond (is_none o) (verdicts_on r d es n (kind_of g) (examined g)) []) none ∙ ap (λ (k : Option SetKind). verdicts_on r d es n k (examined g)) is

pub group_taken : (r : Rules) (g : Group) (d : Delims) (kind : SetKind) (p q : PageFacts) (cs : List Change) (sets : List ToldSet) → group_fault g ≡ None → kind_of g ≡ Some kind
    → AreTaken r d (Some kind) (examined g) p q cs sets → IsGroupTaken r d g p q cs sets
group_taken r g d kind p q cs sets none is taken = record {
  same = taken.same;
  shows = λ n P es part names shows. subst (λ (vs : List Verdict). Shows (after cs q.recent P) (es ++ passed vs)) (sym (telling_verdicts r d es (p.entries + 1) g kind none is)) (taken.shows n P es part (under n names) shows);
  proper = λ n P es part names shows. taken.proper n P es part (under n names) shows;
  told = λ n P es part names shows. taken.told n P es part (under n names) shows ∙ ap (map told_set) (sym (telling_verdicts r d es (p.entries + 1) g kind none is));
  entries = taken.entries;
  recent = omega (arith, taken.recent, examined_length (kind_of g) [] g.sets);
}
  where
    under : (n : Named) → NamesGroup d n g → NamesSets d n (Some kind) (examined g)
    under n names = subst (λ (k : Option SetKind). NamesSets d n k (examined g)) is names

-- no group was taken yet
pub no_groups : (r : Rules) (d : Delims) (p : PageFacts) → AreGroupsTaken r d [] p p [] []
no_groups r d p = record {
  same = refl;
  shows = λ n P es part names shows. subst (Shows (after [] p.recent P)) (sym (append-nil es)) (subst (λ (q : PageFacts). Shows q es) (after_none n p P part) shows);
  proper = λ n P es part names shows. tt;
  told = λ n P es part names shows. refl;
  entries = refl;
  recent = omega arith;
}

-- one group, which is answered or isn't
answered_one : (g : Group) (fault : Option ℕ) (vs : List Verdict) (sets : List ToldSet) → let t : Telling = record { group = g; fault = fault; verdicts = vs } in
    told_of t ≡ told_with g sets → map told_of (answered (t ∷ [])) ≡ told_if g sets
answered_one g fault vs sets is = by_test (is_answered g) refl
  where
    by_test : (b : Bool) → is_answered g ≡ b → map told_of (answered (record { group = g; fault = fault; verdicts = vs } ∷ [])) ≡ told_if g sets
    by_test true e = rw e (ap (λ (x : Told). x ∷ []) is)
    by_test false e = rw e refl

pub group_one : (r : Rules) (g : Group) (d : Delims) (p q : PageFacts) (cs : List Change) (sets : List ToldSet) → IsGroupTaken r d g p q cs sets → AreGroupsTaken r d (g ∷ []) p q cs (told_if g sets)
group_one r g d p q cs sets taken = record {
  same = taken.same;
  shows = λ n P es part names shows. subst (λ (more : List Event). Shows (after cs q.recent P) (es ++ more)) (sym (append-nil (events_told (telling_of r d es (p.entries + 1) g)))) (taken.shows n P es part names.0 shows);
  proper = λ n P es part names shows. taken.proper n P es part names.0 shows;
  told = λ n P es part names shows. sym (answered_one g (group_fault g) ((telling_of r d es (p.entries + 1) g).verdicts) sets (ap (told_with g) (sym (taken.told n P es part names.0 shows))));
  entries = taken.entries;
  recent = omega (arith, taken.recent);
}

groups_named : (d : Delims) (n : Named) (gs hs : List Group) → NamesGroups d n (gs ++ hs) → NamesGroups d n gs × NamesGroups d n hs
groups_named d n [] hs names = (tt, names)
groups_named d n (g ∷ gs) hs names = let rest = groups_named d n gs hs names.1 in ((names.0, rest.0), rest.1)

-- one list of groups after another
pub groups_both : (r : Rules) (d : Delims) (gs hs : List Group) (old mid new : PageFacts) (cs ds : List Change) (some more : List Told)
    → AreGroupsTaken r d gs old mid cs some → AreGroupsTaken r d hs mid new ds more → AreGroupsTaken r d (gs ++ hs) old new (cs ++ ds) (some ++ more)
groups_both r d gs hs old mid new cs ds some more first second = record {
  same = same_both cs ds old mid new first.same second.same;
  shows = λ n P es part names shows.
      let both = groups_named d n gs hs names in
      let m = old.entries + 1 in
      let ts = tellings_on r d es m gs in
      let us = tellings_on r d (es ++ told_events ts) m hs in
      let q = after cs mid.recent P in
      let later : Shows (after ds new.recent q) ((es ++ told_events ts) ++ told_events us) =
      subst (λ k. Shows (after ds new.recent q) ((es ++ told_events ts) ++ told_events (tellings_on r d (es ++ told_events ts) (k + 1) hs))) first.entries
      (second.shows n q (es ++ told_events ts) (part_later n cs old mid P first.same part) both.1 (first.shows n P es part both.0 shows)) in
      let all : (es ++ told_events ts) ++ told_events us ≡ es ++ told_events (tellings_on r d es m (gs ++ hs)) =
      append_assoc es (told_events ts) (told_events us)
      ∙ ap (λ (x : List Event). es ++ x) (sym (ap told_events (tellings_append r d es m gs hs) ∙ flat_map-append events_told ts us)) in
      subst (λ (x : PageFacts). Shows x (es ++ told_events (tellings_on r d es m (gs ++ hs)))) (after_both cs ds mid.recent new.recent P) (subst (Shows (after ds new.recent q)) all later);
  proper = λ n P es part names shows.
      let both = groups_named d n gs hs names in
      let q = after cs mid.recent P in
      proper_later cs ds mid.recent P (first.proper n P es part both.0 shows)
      (second.proper n q (es ++ told_events (tellings_on r d es (old.entries + 1) gs)) (part_later n cs old mid P first.same part) both.1 (first.shows n P es part both.0 shows));
  told = λ n P es part names shows.
      let both = groups_named d n gs hs names in
      let m = old.entries + 1 in
      let ts = tellings_on r d es m gs in
      let us = tellings_on r d (es ++ told_events ts) m hs in
      let later : more ≡ map told_of (answered us) =
      subst (λ k. more ≡ map told_of (answered (tellings_on r d (es ++ told_events ts) (k + 1) hs))) first.entries
      (second.told n (after cs mid.recent P) (es ++ told_events ts) (part_later n cs old mid P first.same part) both.1 (first.shows n P es part both.0 shows)) in
      ap (λ (x : List Told). some ++ x) later ∙ ap (λ (x : List Told). x ++ map told_of (answered us)) (first.told n P es part both.0 shows)
      ∙ sym (ap (λ (x : List Telling). map told_of (answered x)) (tellings_append r d es m gs hs)
      ∙ ap (map told_of) (filter-append (λ (t : Telling). is_answered t.group) ts us) ∙ map-append told_of (answered ts) (answered us));
  entries = second.entries ∙ first.entries;
  recent = omega (arith, first.recent, second.recent, sum_by-append (λ (g : Group). length g.sets) gs hs);
}

-- one group more
pub groups_go_on : (r : Rules) (d : Delims) (groups : List Group) (items : List GroupOf) (i : ℕ) (x : GroupOf) (start mid new : PageFacts) (cs ds : List Change) (told : List Told) (sets : List ToldSet)
    → items ≡ map (group_under d) groups → i < length items → x ≡ get_or items i x
    → AreGroupsTaken r d (take i groups) start mid cs told → IsGroupTaken r x.delims x.group mid new ds sets
    → AreGroupsTaken r d (take (i + 1) groups) start new (cs ++ ds) (told ++ told_if x.group sets)
groups_go_on r d groups items i x start mid new cs ds told sets same within here before step =
    let read = read_map (group_under d) groups items i x x.group same within here in
    let whose : x.group ≡ get_or groups i x.group = ap (λ (g : GroupOf). g.group) read.1 in
    let one : IsGroupTaken r d x.group mid new ds sets = subst (λ (e : Delims). IsGroupTaken r e x.group mid new ds sets) (ap (λ (g : GroupOf). g.delims) read.1) step in
    let more : take (i + 1) groups ≡ take i groups ++ x.group ∷ [] =
    take_more groups i x.group read.0 ∙ ap (λ (g : Group). take i groups ++ g ∷ []) (sym whose) in
    subst (λ (gs : List Group). AreGroupsTaken r d gs start new (cs ++ ds) (told ++ told_if x.group sets)) (sym more)
    (groups_both r d (take i groups) (x.group ∷ []) start mid new cs ds told (told_if x.group sets) before (group_one r x.group d mid new ds sets one))

-- there is room for a group more
pub group_room : (d : Delims) (groups : List Group) (items : List GroupOf) (i : ℕ) (x : GroupOf) (start page : PageFacts)
    → items ≡ map (group_under d) groups → i < length items → x ≡ get_or items i x → page.recent ≤ start.recent + sum_by (λ (g : Group). length g.sets) (take i groups)
    → start.recent + sum_by (λ (g : Group). length g.sets) groups ≤ most_sets → (page.recent + length x.group.sets ≤ most_sets) × (length x.group.sets ≤ most_sets)
group_room d groups items i x start page same within here before room =
    let size : Group → ℕ = λ (g : Group). length g.sets in
    let read = read_map (group_under d) groups items i x x.group same within here in
    let whose : x.group ≡ get_or groups i x.group = ap (λ (g : GroupOf). g.group) read.1 in
    let more : take (i + 1) groups ≡ take i groups ++ x.group ∷ [] =
    take_more groups i x.group read.0 ∙ ap (λ (g : Group). take i groups ++ g ∷ []) (sym whose) in
    let parts : sum_by size groups ≡ sum_by size (take (i + 1) groups) + sum_by size (drop (i + 1) groups) =
    ap (sum_by size) (sym (take-append-drop (i + 1) groups)) ∙ sum_by-append size (take (i + 1) groups) (drop (i + 1) groups) in
    let front : sum_by size (take (i + 1) groups) ≡ sum_by size (take i groups) + sum_by size (x.group ∷ []) =
    ap (sum_by size) more ∙ sum_by-append size (take i groups) (x.group ∷ []) in
    (omega (arith, parts, front, before, room), omega (arith, parts, front, before, room))

-- what holds of all holds at a place
all_at : {X : Type 0} (P : X → Type 0) (xs : List X) (i : ℕ) (d : X) → AllByRecursion P xs → i < length xs → P (get_or xs i d)
all_at P [] i d all within = absurd (omega (arith, within))
all_at P (x ∷ xs) zero d all within = all.0
all_at P (x ∷ xs) (suc i) d all within = all_at P xs i d all.1 (omega (arith, within))

pub group_small : (d : Delims) (groups : List Group) (items : List GroupOf) (i : ℕ) (x : GroupOf)
    → items ≡ map (group_under d) groups → i < length items → x ≡ get_or items i x → AllByRecursion IsSmall groups → IsSmall x.group
group_small d groups items i x same within here all =
    let read = read_map (group_under d) groups items i x x.group same within here in
    subst IsSmall (sym (ap (λ (g : GroupOf). g.group) read.1)) (all_at IsSmall groups i x.group all read.0)
