use Rattle.std.proofs.Common.{inr, arith}
use Rattle.verifier_link.proofs.link.LinkSigner.sign.Goals as goal

pub returns-in-None-clause-exchanges : goal.returns-in-None-clause-exchanges
returns-in-None-clause-exchanges g c =
    let fetched = c.in_ok-fetch.ensures.fetches in
    rw c.fail.ensures (record {
      cause = inr (inr (inr (record {
        never_failed = fetched.2;
        bytes = c.fetch.new.answer;
        nothing = λ sig says. c.in-None.ensures.none sig says.0 says.1;
        due = omega arith;
        put = fetched.0;
        read = fetched.1;
      })));
      counted = omega arith;
    })
