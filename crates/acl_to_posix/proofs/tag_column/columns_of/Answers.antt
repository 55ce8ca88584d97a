use Rattle.acl_ids.specs.Ids.{with_ids}
use Rattle.acl_eval.specs.Permissions.{append_data, execute_right, read_data, write_data}
use Rattle.acl_to_posix.proofs.columns.TagColumns.{column_is, few_keys}
use Rattle.acl_to_posix.proofs.tag_column.columns_of.Goals as goal

pub returns-clause-columns : goal.returns-clause-columns
returns-clause-columns c =
    let list = with_ids c.args.names.now c.args.list.now in
    let aces = c.in_ok-aces.aces.items in
    let decides = c.in_ok-aces.ensures.decides in
    let few = c.in_ok-aces.ensures.few in
    record {
      read = column_is list read_data aces c.deref.result.now c.in_ok-read.read.items c.deref.ensures.value decides few
          c.in_ok-read.ensures.decides c.in_ok-read.ensures.first c.in_ok-read.ensures.few;
      write = column_is list write_data aces c.deref-2.result.now c.in_ok-write.write.items c.deref-2.ensures.value
          decides few c.in_ok-write.ensures.decides c.in_ok-write.ensures.first c.in_ok-write.ensures.few;
      append = column_is list append_data aces c.deref-3.result.now c.in_ok-append.append.items c.deref-3.ensures.value
          decides few c.in_ok-append.ensures.decides c.in_ok-append.ensures.first c.in_ok-append.ensures.few;
      execute = column_is list execute_right aces c.deref-4.result.now c.in_ok-execute.execute.items
          c.deref-4.ensures.value decides few c.in_ok-execute.ensures.decides c.in_ok-execute.ensures.first
          c.in_ok-execute.ensures.few;
    }

pub returns-clause-few : goal.returns-clause-few
returns-clause-few c =
    let few = c.in_ok-aces.ensures.few in record {
      read = few_keys c.in_ok-aces.aces.items c.deref.result.now c.in_ok-read.read.items c.deref.ensures.value few
          c.in_ok-read.ensures.few;
      write =
          few_keys c.in_ok-aces.aces.items c.deref-2.result.now c.in_ok-write.write.items c.deref-2.ensures.value few
          c.in_ok-write.ensures.few;
      append = few_keys c.in_ok-aces.aces.items c.deref-3.result.now c.in_ok-append.append.items c.deref-3.ensures.value
          few c.in_ok-append.ensures.few;
      execute = few_keys c.in_ok-aces.aces.items c.deref-4.result.now c.in_ok-execute.execute.items
          c.deref-4.ensures.value few c.in_ok-execute.ensures.few;
    }
