-- An event may go to another thread: what it owns stays the same there.
use denote.Builtin.{u8}
use denote.Param.Send.{IsSend, sendable}
use denote.Param.SendFields.{variants_send, declared_send}
use Rattle.cesr_codes.proofs.digest.Digest.TheSendSync as digest
use Rattle.cesr_codes.proofs.key.Key.TheSendSync as key
use Rattle.cesr_codes.proofs.prefix.Prefix.TheSendSync as prefix
use Rattle.sith.proofs.threshold.Threshold.TheSendSync as threshold
use Rattle.lists.proofs.lists.items.Items.TheSendSync as items
use Rattle.lists.specs.contracts.lists.items.Items as row
use Rattle.std.specs.contracts.option.Option as option
use Rattle.std.proofs.option.Option.TheSendSync as options
use Rattle.cesr_codes.specs.contracts.digest.Digest as digests
use Rattle.cesr_codes.specs.contracts.key.Key as keys
use Rattle.cesr_codes.specs.contracts.prefix.Prefix as prefixes
use Rattle.json_tree.specs.contracts.tree.Tree as trees
use Rattle.json_tree.proofs.Crosses.{tree_send}
use Rattle.event_body.specs.contracts.event_body.event.Event as event
use Rattle.event_body.specs.contracts.event_body.inception.Inception as inception
use Rattle.event_body.specs.contracts.event_body.rotation.Rotation as rotation
use Rattle.event_body.specs.contracts.event_body.interaction.Interaction as interaction
use Rattle.event_body.specs.contracts.event_body.receipt_body.ReceiptBody as receipt

text_send : IsSend (row.the_row u8)
text_send = items.the_send u8 (search sendable)

texts_send : IsSend (row.the_row (row.the_row u8))
texts_send = items.the_send (row.the_row u8) text_send

anchors_send : IsSend (row.the_row trees.the_row)
anchors_send = items.the_send trees.the_row tree_send

digests_send : IsSend (row.the_row digests.the_row)
digests_send = items.the_send digests.the_row digest.the_send

keys_send : IsSend (row.the_row keys.the_row)
keys_send = items.the_send keys.the_row key.the_send

delegator_send : IsSend (option.the_row prefixes.the_row)
delegator_send = options.the_send prefixes.the_row prefix.the_send

interaction_send : IsSend interaction.the_row
interaction_send = declared_send interaction.the_type (digest.the_send, (prefix.the_send, (search sendable, (digest.the_send, (anchors_send, tt)))))

rotation_send : IsSend rotation.the_row
rotation_send = declared_send rotation.the_type (
  digest.the_send,
  (
    prefix.the_send,
    (
      search sendable,
      (
        digest.the_send,
        (threshold.the_send, (keys_send, (threshold.the_send, (digests_send, (search sendable, (keys_send, (keys_send, (anchors_send, tt)))))))),
      ),
    ),
  ),
)

inception_send : IsSend inception.the_row
inception_send = declared_send inception.the_type (
  digest.the_send,
  (
    prefix.the_send,
    (
      threshold.the_send,
      (
        keys_send,
        (
          threshold.the_send,
          (
            digests_send,
            (search sendable, (keys_send, (texts_send, (anchors_send, (delegator_send, tt))))),
          ),
        ),
      ),
    ),
  ),
)

receipt_send : IsSend receipt.the_row
receipt_send = declared_send receipt.the_type (digest.the_send, (prefix.the_send, (search sendable, tt)))

pub event_send : IsSend event.the_row
event_send = variants_send event.enum ((inception_send, tt), ((rotation_send, tt), ((interaction_send, tt), ((inception_send, tt), ((rotation_send, tt), ((receipt_send, tt), tt))))))
