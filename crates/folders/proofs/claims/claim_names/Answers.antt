use Rattle.std.proofs.Common.{rules, ◌≡◌, ◌++◌, ◌∷◌, [], List, subst, string_bytes}
use Rattle.std.proofs.lemmas.List.Elements.{All-nil, All-push}
use Rattle.folders.specs.Claims.{Claimed, IsClaim}
use Rattle.folders.proofs.Claiming.{named_more, told_more}
use Rattle.folders.proofs.claims.claim_names.Goals as goal

pub loop-name-init : goal.loop-name-init
loop-name-init g c = record {
  files = [];
  named = c.into_iter-name-iterator.ensures.into_iter_gives.0;
  each = All-nil (λ (f : Claimed). IsClaim (g.R.FileSystem.finds c.args.rt.now) (g.R.FileSystem.moves c.args.rt.now) (g.R.FileSystem.fails c.args.rt.now) c.args.dir.now c.args.other.now (string_bytes f.name) f.claim);
  told = c.new-stays.ensures.items;
}

pub loop-name-preserved : goal.loop-name-preserved
loop-name-preserved g c =
    let i = c.loop-name.invariant in
    let P = IsClaim (g.R.FileSystem.finds c.args.rt.now) (g.R.FileSystem.moves c.args.rt.now) (g.R.FileSystem.fails c.args.rt.now) c.args.dir.now c.args.other.now in
    let name : c.deref.result.now ≡ string_bytes c.in-Some.name = search rules in
    let file : Claimed = record { name = c.in-Some.name; claim = c.in_ok-claim.claim } in
    record {
      files = i.files ++ file ∷ [];
      named = named_more i.files file _ _ _ c.in-Some.ensures.steps.0 i.named;
      each = All-push (λ (f : Claimed). P (string_bytes f.name) f.claim) i.files file i.each (subst (λ (n : List _). P n c.in_ok-claim.claim) name c.in_ok-claim.ensures);
      told = told_more i.files c.in-Some.name c.in_ok-claim.claim _ _ i.told c.in_ok-put_staying.ensures;
    }
