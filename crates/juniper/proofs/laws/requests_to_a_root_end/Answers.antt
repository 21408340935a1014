use Rattle.std.proofs.Common.{refl}
use Rattle.juniper.proofs.Ending.{rooted-end}
use Rattle.juniper.specs.RootView.{users_service_of}
use Rattle.juniper.specs.Services.{steps_at}
use Rattle.juniper_intro.specs.RootView.{mutation_info_of, mutation_of}
use Rattle.juniper.proofs.laws.requests_to_a_root_end.Goals as goal

pub returns : goal.returns
returns g c =
    let query = g.Q.GraphQLValue in
    let mutation = g.M.GraphQLMutationValue in
    let root = c.args.root.now in
    rooted-end (users_service_of query.concrete query.answer query.root mutation.step mutation.torn g.S.ScalarValue.shown root)
    (steps_at mutation.step mutation.torn (mutation_of root) (mutation_info_of root)) refl
