use Rattle.std.proofs.Common.{◌≡◌, ◌+◌, ◌∙◌, length, Some, None, subst, sym, arith}
use Rattle.std.proofs.lemmas.List.{take_rest}
use Rattle.rules_model.specs.TokensShapes.{between, token}
use Rattle.rules_model.specs.TokensCut.{IsBadAt}
use Rattle.rules_model.specs.TokensReading.{piece_at}
use Rattle.chill_lexer.specs.Runs.{IsPut}
use Rattle.chill_lexer.proofs.LexerLemmas.{IsSoFar, front_of, along_of, along_size, further_along, further_line, further_between, further_token, read_to_bad, piece_size, not_empty, piece_place, token_place}
use Rattle.chill_lexer.proofs.lexer.lex.Goals as goal

pub right-at-requires : goal.right-at-requires
right-at-requires c =
    let size = along_size c.loop-rest.at c.loop-rest.rest.now _ _ c.in-Some.length c.in-Some.ensures.found in omega arith

pub split_at-requires : goal.split_at-requires
split_at-requires c = (along_size c.loop-rest.at c.loop-rest.rest.now _ _ c.in-Some.length c.in-Some.ensures.found).0

pub loop-rest-smaller-in-Some : goal.loop-rest-smaller-in-Some
loop-rest-smaller-in-Some c =
    let size = along_size c.loop-rest.at c.loop-rest.rest.now _ _ c.in-Some.length c.in-Some.ensures.found in
    omega (arith, c.split_at.ensures.back_len)

pub loop-rest-preserved-in-Some : goal.loop-rest-preserved-in-Some
loop-rest-preserved-in-Some c =
    let rest = c.loop-rest.rest.now in let n = c.in-Some.length in let new = c.along.new.tokens.items in
    let along = along_of c.loop-rest.at rest _ c.loop-rest.tokens.items new n c.make_room.ensures.same c.in-Some.ensures.found in
    let place = token_place c.loop-rest.at c.right-at.result (length c.split_at.result.1.now) n (length rest) (length c.args.text.now + 1)
    c.split_at.ensures.back_len c.right-at.ensures c.loop-rest.invariant.line c.loop-rest.invariant.column in
    let far = further_along c.args.text.now rest c.loop-rest.tokens.items new c.loop-rest.at n c.right-at.result c.loop-rest.invariant.so_far along c.right-at.ensures in
    record {
      so_far = subst (IsSoFar c.args.text.now new c.right-at.result) (sym c.split_at.ensures.back) far;
      line = place.0;
      column = place.1;
    }

pub loop-rest-preserved-then-rest-eq10 : goal.loop-rest-preserved-then-rest-eq10
loop-rest-preserved-then-rest-eq10 c =
    let same = (λ i. (c.in_default.ensures.none i).items) ∙ c.make_room.ensures.same in
    let line = further_line c.args.text.now c.loop-rest.rest.now _ c.loop-rest.tokens.items c.along.new.tokens.items c.loop-rest.at c.next_line-at.result (length c.args.text.now + 1)
    c.loop-rest.invariant.so_far c.if-rest-eq10.true same c.next_line-at.ensures (take_rest c.loop-rest.rest.now 1) c.loop-rest.invariant.line c.loop-rest.invariant.column in
    record {
      so_far = line.0;
      line = line.1;
      column = line.2;
    }

pub split_at-requires-in-Between : goal.split_at-requires-in-Between
split_at-requires-in-Between c =
    let front = front_of c.loop-rest.at c.loop-rest.rest.now _ _ c.any_front.new.tokens.items _ _ (λ i. (c.in_default.ensures.none i).items) c.in-Between.is c.in_ok-length.ensures in
    (piece_size c.loop-rest.rest.now between c.in-Between.length front.0.0).0

pub loop-rest-smaller-in-Between : goal.loop-rest-smaller-in-Between
loop-rest-smaller-in-Between c =
    let front = front_of c.loop-rest.at c.loop-rest.rest.now _ _ c.any_front.new.tokens.items _ _ (λ i. (c.in_default.ensures.none i).items) c.in-Between.is c.in_ok-length.ensures in
    let size = piece_size c.loop-rest.rest.now between c.in-Between.length front.0.0 in
    omega (arith, c.split_at-in-Between.ensures.back_len)

pub loop-rest-preserved-in-Between : goal.loop-rest-preserved-in-Between
loop-rest-preserved-in-Between c =
    let rest = c.loop-rest.rest.now in let n = c.in-Between.length in let new = c.any_front.new.tokens.items in
    let front = front_of c.loop-rest.at rest _ c.loop-rest.tokens.items new _ _ ((λ i. (c.in_default.ensures.none i).items) ∙ c.make_room.ensures.same) c.in-Between.is c.in_ok-length.ensures in
    let size = piece_size rest between n front.0.0 in
    let place = piece_place c.loop-rest.at c.in-Between.behind rest n (length c.args.text.now + 1) size.0 front.0.1 c.loop-rest.invariant.line c.loop-rest.invariant.column in
    let far = further_between c.args.text.now rest c.loop-rest.tokens.items new c.loop-rest.at n c.in-Between.behind c.loop-rest.invariant.so_far front.0.0 front.1 front.0.1 in
    let left = c.split_at-in-Between.ensures.back in
    record {
      so_far = subst (IsSoFar c.args.text.now new c.in-Between.behind) (sym left) far;
      line = rw left place.0;
      column = rw left place.1;
    }

pub right-at-requires-in-Token : goal.right-at-requires-in-Token
right-at-requires-in-Token c =
    let rest = c.loop-rest.rest.now in
    let front : IsPut c.loop-rest.at (piece_at rest) _ c.any_front.new.tokens.items (Some c.in-Token.length) =
    front_of c.loop-rest.at rest _ _ c.any_front.new.tokens.items _ _ (λ i. (c.in_default.ensures.none i).items) c.in-Token.is c.in_ok-length.ensures in
    let size = piece_size rest (token front.0) c.in-Token.length front.1 in
    omega arith

pub split_at-requires-in-Token : goal.split_at-requires-in-Token
split_at-requires-in-Token c =
    let rest = c.loop-rest.rest.now in
    let front : IsPut c.loop-rest.at (piece_at rest) _ c.any_front.new.tokens.items (Some c.in-Token.length) =
    front_of c.loop-rest.at rest _ _ c.any_front.new.tokens.items _ _ (λ i. (c.in_default.ensures.none i).items) c.in-Token.is c.in_ok-length.ensures in
    let size = piece_size rest (token front.0) c.in-Token.length front.1 in
    size.0

pub loop-rest-smaller : goal.loop-rest-smaller
loop-rest-smaller c =
    let rest = c.loop-rest.rest.now in
    let front : IsPut c.loop-rest.at (piece_at rest) _ c.any_front.new.tokens.items (Some c.in-Token.length) =
    front_of c.loop-rest.at rest _ _ c.any_front.new.tokens.items _ _ (λ i. (c.in_default.ensures.none i).items) c.in-Token.is c.in_ok-length.ensures in
    let size = piece_size rest (token front.0) c.in-Token.length front.1 in
    omega (arith, c.split_at-in-Token.ensures.back_len)

pub loop-rest-preserved : goal.loop-rest-preserved
loop-rest-preserved c =
    let rest = c.loop-rest.rest.now in let n = c.in-Token.length in let new = c.any_front.new.tokens.items in
    let front : IsPut c.loop-rest.at (piece_at rest) c.loop-rest.tokens.items new (Some n) =
    front_of c.loop-rest.at rest _ c.loop-rest.tokens.items new _ _ ((λ i. (c.in_default.ensures.none i).items) ∙ c.make_room.ensures.same) c.in-Token.is c.in_ok-length.ensures in
    let place = token_place c.loop-rest.at c.right-at-in-Token.result (length c.split_at-in-Token.result.1.now) n (length rest) (length c.args.text.now + 1)
    c.split_at-in-Token.ensures.back_len c.right-at-in-Token.ensures c.loop-rest.invariant.line c.loop-rest.invariant.column in
    let far = further_token c.args.text.now rest c.loop-rest.tokens.items new c.loop-rest.at n c.right-at-in-Token.result front.0 c.loop-rest.invariant.so_far front.1 front.2 c.right-at-in-Token.ensures in
    record {
      so_far = subst (IsSoFar c.args.text.now new c.right-at-in-Token.result) (sym c.split_at-in-Token.ensures.back) far;
      line = place.0;
      column = place.1;
    }

pub returns-in-Bad-clause-refused : goal.returns-in-Bad-clause-refused
returns-in-Bad-clause-refused c =
    let none : piece_at c.loop-rest.rest.now ≡ None =
    front_of c.loop-rest.at c.loop-rest.rest.now _ _ c.any_front.new.tokens.items _ _ (λ i. (c.in_default.ensures.none i).items) c.in-Bad.is c.in_ok-length.ensures in
    let some = not_empty c.loop-rest.rest.now c.is_empty.result c.is_empty.ensures c.loop-rest-test.true in
    let told = c.no_token.ensures in (
      subst (IsBadAt c.args.text.now) (sym told.0) (read_to_bad c.args.text.now c.loop-rest.rest.now c.loop-rest.tokens.items c.loop-rest.at c.loop-rest.invariant.so_far some none),
      told.1,
      told.2,
      told.3,
    )
