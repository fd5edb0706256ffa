use Rattle.std.proofs.Common.{rules, of_calls, ◌≡◌, ◌∙◌, ◌∷◌, ◌++◌, [], ℕ, refl, sym, subst, ap, map, length, List, Some, slice_get, string_bytes}
use Rattle.std.proofs.lemmas.List.{length-map}
use Rattle.store.proofs.Changes.{goes_trans, unchanged_refl}
use Rattle.folders.specs.Folders.{Became, became_of}
use Rattle.folders.specs.Handed.{AreFilesHanded, IsFileHanded, IsHanded, IsText, IsUntaken}
use Rattle.folders.specs.Paths.{file_path}
use Rattle.folders.proofs.Taking.{still_each, next_name, all_each}
use Rattle.folders.proofs.Handing.{none_handed, handed_in_more, stopped_within, told_more_of, names_before}
use Rattle.folders.specs.declared.folder.Taken.{Taken}
use Rattle.std.specs.Vec.Iter.{into_iter_items}
use Rattle.folders.proofs.folder.take_names.Goals as goal

pub loop-name-init : goal.loop-name-init
loop-name-init g c =
    let at = g.K.Keeper.standing c.args.keeper.now in
    let P = IsHanded (g.R.FileSystem.reads c.args.rt.now) (g.R.FileSystem.writes c.args.rt.now) (g.R.FileSystem.lacks c.args.rt.now) c.args.dir.now in
    record {
      goes = (unchanged_refl at).goes;
      shut = refl;
      handed = subst (λ (files : List Taken). AreFilesHanded P at at c.args.moment (map (λ file. string_bytes file.name) files) (map (λ file. became_of file.outcome) files)) (sym c.new-files.ensures.items) (none_handed P at c.args.moment);
      each = ap (λ (files : List Taken). map (λ file. file.name) files ++ into_iter_items c.into_iter-name-iterator.result) c.new-files.ensures.items
          ∙ c.into_iter-name-iterator.ensures.into_iter_gives.0;
      told = c.requires.told;
    }

pub loop-name-preserved : goal.loop-name-preserved
loop-name-preserved g c =
    let i = c.loop-name.invariant in
    let old = g.K.Keeper.standing c.args.keeper.now in
    let now = g.K.Keeper.standing c.loop-name.keeper in
    let new = g.K.Keeper.standing c.take_file.new.keeper in
    let P = IsHanded (g.R.FileSystem.reads c.args.rt.now) (g.R.FileSystem.writes c.args.rt.now) (g.R.FileSystem.lacks c.args.rt.now) c.args.dir.now in
    let name : c.deref.result.now ≡ string_bytes c.in-Some.name = search rules in
    let grown = rw c.unwrap.ensures at c.push.ensures.items in
    let names = told_more_of (λ file. string_bytes file.name) c.loop-name.files.items c.take_file.new.files.items c.push.new.self.items _ c.take_file.ensures.kept grown in
    let outcomes = told_more_of (λ file. became_of file.outcome) c.loop-name.files.items c.take_file.new.files.items c.push.new.self.items _ c.take_file.ensures.kept grown in
    record {
      goes = goes_trans old now new i.goes c.take_file.ensures.goes;
      shut = i.shut ∙ c.in-Ok.ensures.opened;
      handed = subst (λ (ns : List (List ℕ)). AreFilesHanded P old new c.args.moment ns (map (λ file. became_of file.outcome) c.push.new.self.items)) names
          (subst (λ (told : List Became). AreFilesHanded P old new c.args.moment (map (λ file. string_bytes file.name) c.loop-name.files.items ++ string_bytes c.in-Some.name ∷ []) told) outcomes
          (handed_in_more P old now new c.args.moment _ _ _ _ i.goes c.take_file.ensures.goes i.handed
          (subst (λ (n : List ℕ). IsFileHanded P now new c.args.moment n (became_of c.in-Ok.outcome)) name c.in-Ok.ensures.taken)));
      each = still_each c.loop-name.files.items c.take_file.new.files.items c.push.new.self.items _ _ _ c.take_file.ensures.kept grown c.in-Some.ensures.steps.0 ∙ i.each;
      told = search (rules, of_calls);
    }

pub returns-in-Err-clause-stopped : goal.returns-in-Err-clause-stopped
returns-in-Err-clause-stopped g c =
    let i = c.loop-name.invariant in
    let old = g.K.Keeper.standing c.args.keeper.now in
    let now = g.K.Keeper.standing c.loop-name.keeper in
    let new = g.K.Keeper.standing c.take_file.new.keeper in
    let P = IsHanded (g.R.FileSystem.reads c.args.rt.now) (g.R.FileSystem.writes c.args.rt.now) (g.R.FileSystem.lacks c.args.rt.now) c.args.dir.now in
    let has = λ (n : List ℕ). IsText (g.R.FileSystem.reads c.args.rt.now) (file_path c.args.dir.now n) in
    let told : c.len.result ≡ length c.take_file.new.files.items = search rules in
    let name : c.deref.result.now ≡ string_bytes c.in-Some.name = search rules in
    let counted = told ∙ ap length c.take_file.ensures.kept in
    stopped_within P has _ old now new c.args.moment _ _ _ i.goes i.shut c.take_file.ensures.goes i.handed (
      c.in-Some.name,
      refl,
      subst (λ k. slice_get c.args.names.items k ≡ Some c.in-Some.name) (sym counted) (next_name c.loop-name.files.items _ _ _ _ c.in-Some.ensures.steps.0 i.each),
    )
    (names_before c.loop-name.files.items _ _ _ counted i.each)
    (counted ∙ sym (length-map c.loop-name.files.items (λ file. string_bytes file.name)))
    (subst (λ (n : List ℕ). IsUntaken (has n) c.in-Err.fault now new c.args.moment) name c.in-Err.ensures.stopped)

pub returns-clause-each : goal.returns-clause-each
returns-clause-each g c = all_each c.loop-name.files.items (into_iter_items c.loop-name.name-iterator) _ (sym c.loop-name.name-iterator.rest.ok.0 ∙ c.in-None.ensures.steps.0) c.loop-name.invariant.each
