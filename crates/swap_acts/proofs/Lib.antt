mod StartViews
